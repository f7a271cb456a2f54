-- What the worked rows are made of: the objects of their scripts, and how a row follows from its layouts.
use Rattle.std.specs.Prelude.{◌≡◌, ℕ, ℤ, pos, ◌^◌, List, [], ◌∷◌, codes, Option, Some, None, Ok, refl, map}
use Rattle.std.proofs.Common.{ap, ◌∙◌}
use Rattle.adr_value.specs.declared.datum.Datum.{Datum}
use Rattle.adr_value.specs.declared.datum.Datum.TheVariants.{Number, Text}
use Rattle.adr_value.specs.declared.payload.PayloadType.TheVariants.{Price}
use Rattle.adr_time.specs.Ends.{end_after}
use Rattle.adr_time.specs.declared.length.Length.{Length}
use Rattle.adr_time.specs.declared.span.End.{End}
use Rattle.adr_time.specs.declared.span.End.TheVariants.{At}
use Rattle.adr_time.specs.declared.span.Span.{Span}
use Rattle.adr_object.specs.declared.event.Target.{Target}
use Rattle.adr_object.specs.declared.event.Event.{Event}
use Rattle.adr_object.specs.declared.event.Interval.{Interval}
use Rattle.adr_object.specs.declared.event.Period.{Period}
use Rattle.adr_object.specs.declared.object.Object.TheVariants.{Program as program, Ven as ven, Resource as resource}
use Rattle.adr_object.specs.declared.object.Edit.{Edit}
use Rattle.adr_object.specs.declared.object.Edit.TheVariants.{Create}
use Rattle.adr_model.specs.declared.entry.Entry.{Entry}
use Rattle.adr_model.specs.declared.timeline.Winner.{Winner}
use Rattle.adr_model.specs.declared.touch.Touch.{Touch}
use Rattle.adr_model.specs.Answer.{changes, earliest, until}
use Rattle.adr_model.specs.Layout.{layout}
use Rattle.adr_model.specs.Edits.{after}
use Rattle.adr_model.specs.Governor.{entries_for, governs, winner_at}
use Rattle.adr_model.specs.Rank.{ranked}
use Rattle.adr_model.specs.declared.entry.Tie.TheVariants.{Newest}
use Rattle.adr_model.proofs.Ranked.{governs_winners}
use Rattle.adr_model.proofs.Times.{half_hours}

-- ---- objects

-- a target list of one type with one text
abbrev pub aimed_at : List ℕ → List ℕ → List Target
aimed_at kind name = record { kind = kind; values = Text name ∷ [] } ∷ []

abbrev pub program_1 : List ℕ → Edit
program_1 name = Create (program (record { id = codes "p1"; program_name = name; targets = [] }))

-- a program p1, a ven v1 with those targets and its resource r1
abbrev pub setting_with : List Target → List Edit
setting_with targets =
    program_1 (codes "P")
    ∷ Create (ven (record { id = codes "v1"; ven_name = codes "V"; targets = targets }))
    ∷ Create (resource (record { id = codes "r1"; resource_name = codes "R"; ven_id = codes "v1"; targets = [] }))
    ∷ []

abbrev pub setting : List Edit
setting = setting_with []

abbrev pub whole : ℕ → Datum
whole n = Number (record { coefficient = pos n; scale = 0 })

abbrev pub priced : ℤ → Option Period → ℕ → Interval
priced id period value = record { id = id; period = period; payloads = record { kind = Price; values = whole value ∷ [] } ∷ [] }

abbrev pub period : ℤ → Option Length → Option Period
period start length = Some (record { start = start; duration = length; randomize = None })

-- an event of p1 with those targets and one interval that has a price
abbrev pub one_price : List ℕ → Option ℕ → ℤ → Option Length → ℕ → List Target → Event
one_price id priority start length value targets =
    record {
      id = id;
      program_id = codes "p1";
      event_name = None;
      priority = priority;
      targets = targets;
      interval_period = None;
      intervals = priced (pos 0) (period start length) value ∷ [];
    }

abbrev pub span_between : ℕ → ℕ → Span
span_between from to = record { start = half_hours from; end = At (half_hours to) }

-- ---- layouts

module _ (id : List ℕ) (priority : Option ℕ) (start : ℤ) (length : Length) (value : ℕ) (targets : List Target) where
  pub one_price-layout : (end : End) → end_after start length ≡ Ok end
      → layout (one_price id priority start (Some length) value targets) ≡ Ok (record { start = start; end = end } ∷ [])
  unfolding layout
  one_price-layout end h = rw h refl

-- ---- from the entries of r1's price to what governs it

abbrev pub prices : List Edit → List Entry
prices edits = entries_for (after edits) (codes "r1") Price

abbrev pub governor : List Edit → ℕ → Option Winner
governor edits n = governs Newest (after edits) (codes "r1") Price (half_hours n)

abbrev pub ends : List Edit → ℕ → End
ends edits n = until Newest (after edits) (codes "r1") Price (half_hours n)

-- the first interval of the event with that number
abbrev pub won_by : ℕ → Option Winner
won_by written = Some (record { written = written; place = 0 })

abbrev pub until_half_hour : ℕ → End
until_half_hour n = At (half_hours n)

-- an entry of rank (priority, written, place) between two half hours
abbrev pub entry : ℕ → ℕ → ℕ → Span → Entry
entry priority written place span = record { rank = record { priority = priority; late = pos 0; written = written; place = place }; span = span }

-- the priority of an event that has none
abbrev pub absent : ℕ
absent = 2 ^ 32

module _ (edits : List Edit) (es : List Entry) (h : prices edits ≡ es) where
  pub governed : (ns : List ℕ) → map (governor edits) ns ≡ map (λ n. winner_at (map (ranked Newest) es) (half_hours n)) ns
  governed ns =
      ap (λ g. map (λ n. g (half_hours n)) ns) (governs_winners Newest (after edits) (codes "r1") Price)
      ∙ ap (λ xs. map (λ n. winner_at (map (ranked Newest) xs) (half_hours n)) ns) h

  pub ended : (ns : List ℕ) → map (ends edits) ns ≡ map (λ n. earliest (changes (map (ranked Newest) es) (half_hours n))) ns
  unfolding until
  ended ns = ap (λ xs. map (λ n. earliest (changes (map (ranked Newest) xs) (half_hours n))) ns) h

-- a touch of r1's price between two half hours
abbrev pub touch : ℕ → ℕ → Touch
touch from to = record { resource = codes "r1"; kind = Price; window = span_between from to }
