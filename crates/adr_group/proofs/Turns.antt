-- Type by type: what is repaired, and how much is compared.
use Rattle.std.proofs.Common.{◌≡◌, ℕ, ℤ, ◌+◌, Bool, true, false, if◌then◌else◌, ◌||◌, List, [], ◌∷◌, ◌++◌, Option, None, refl, ap, sym, ◌∙◌, append_assoc, arith}
use Rattle.std.specs.Option.{option_map_or}
use Rattle.std.specs.HashMap.{get_by_text}
use Rattle.std.proofs.lemmas.List.Folds.{list_any-append}
use Rattle.std.proofs.lemmas.Slice.Eq.{bytes_eq-Decides}
use Rattle.adr_value.specs.Payload.{name_of}
use Rattle.adr_value.specs.Same.{same_type}
use Rattle.adr_value.specs.declared.payload.PayloadType.{PayloadType}
use Rattle.adr_shared.specs.Map.{lookup}
use Rattle.adr_time.specs.Spans.{covers}
use Rattle.adr_model.specs.declared.entry.Entry.{Entry}
use Rattle.adr_model.specs.declared.timeline.Segment.{Segment}
use Rattle.adr_model.specs.declared.timeline.Winner.{Winner}
use Rattle.adr_model.specs.Governor.{winner_at}
use Rattle.adr_model.specs.Timeline.{shows}
use Rattle.adr_lines.specs.declared.grouped.TypeEntries.{TypeEntries}
use Rattle.adr_lines.specs.Grouped.{any_covers_at, entries_under}
use Rattle.adr_lines.specs.Right.{written_in}
use Rattle.adr_lines.specs.declared.indexes.Indexes.{Indexes}
use Rattle.adr_lines.specs.Indexes.{own_entries, under}
use Rattle.adr_group.specs.Group.{shown_in}
use Rattle.adr_group.specs.Repair.{most_repaired}

pub one_name : (a b : PayloadType) → same_type a b ≡ true → name_of a ≡ name_of b
one_name a b h = (bytes_eq-Decides (name_of a) (name_of b)).0 h

-- what the writes show of the type
abbrev pub wins : Indexes → List ℕ → PayloadType → ℤ → Option Winner
wins indexes writes k t = winner_at (written_in writes (under indexes k)) t

one_win : (indexes : Indexes) (writes : List ℕ) (a b : PayloadType) (t : ℤ) → same_type a b ≡ true → wins indexes writes a t ≡ wins indexes writes b t
one_win indexes writes a b t same =
    ap (λ (n : List ℕ). winner_at (written_in writes (option_map_or (λ i. i.entries) (get_by_text indexes.by_name n) [])) t) (one_name a b same)

pub one_shown : (lines : List (List ℕ × List Segment)) (a b : PayloadType) (t : ℤ) → same_type a b ≡ true → shown_in lines a t ≡ shown_in lines b t
one_shown lines a b t same = ap (λ (n : List ℕ). option_map_or (λ line. shows line t) (lookup n lines) None) (one_name a b same)

-- one type is repaired
pub type_repaired : (g : TypeEntries) (indexes : Indexes) (writes : List ℕ) (lines new : List (List ℕ × List Segment)) (line : List Segment)
    → ((t : ℤ) → shows line t ≡ (if any_covers_at g.entries.items t then wins indexes writes g.payload_type t else shown_in lines g.payload_type t))
    → ((k : PayloadType) (t : ℤ) → shown_in new k t ≡ (if same_type g.payload_type k then shows line t else shown_in lines k t))
    → (k : PayloadType) (t : ℤ) → shown_in new k t ≡ (if any_covers_at (own_entries g k) t then wins indexes writes k t else shown_in lines k t)
type_repaired g indexes writes lines new line repaired put k t = by (same_type g.payload_type k) refl (put k t)
  where
    by : (b : Bool) → same_type g.payload_type k ≡ b → shown_in new k t ≡ (if b then shows line t else shown_in lines k t)
        → shown_in new k t ≡ (if any_covers_at (if b then g.entries.items else []) t then wins indexes writes k t else shown_in lines k t)
    by true same h =
        h ∙ repaired t
        ∙ ap (λ (o : Option Winner). if any_covers_at g.entries.items t then o else shown_in lines g.payload_type t) (one_win indexes writes g.payload_type k t same)
        ∙ ap (λ (o : Option Winner). if any_covers_at g.entries.items t then wins indexes writes k t else o) (one_shown lines g.payload_type k t same)
    by false same h = h

-- ---- two lists of windows

pub under_both : (xs ys : List TypeEntries) (k : PayloadType) → entries_under (xs ++ ys) k ≡ entries_under xs k ++ entries_under ys k
under_both [] ys k = refl
under_both (g ∷ xs) ys k = ap (λ (es : List Entry). own_entries g k ++ es) (under_both xs ys k) ∙ sym (append_assoc (own_entries g k) (entries_under xs k) (entries_under ys k))

pub both_repaired : (xs ys : List TypeEntries) (k : PayloadType) (t : ℤ) (w old middle new : Option Winner)
    → middle ≡ (if any_covers_at (entries_under xs k) t then w else old)
    → new ≡ (if any_covers_at (entries_under ys k) t then w else middle)
    → new ≡ (if any_covers_at (entries_under (xs ++ ys) k) t then w else old)
both_repaired xs ys k t w old middle new first second =
    by (any_covers_at (entries_under xs k) t) (any_covers_at (entries_under ys k) t) first second
    ∙ ap (λ (b : Bool). if b then w else old)
    (sym (list_any-append (λ e. covers e.span t) (entries_under xs k) (entries_under ys k)) ∙ ap (λ (es : List Entry). any_covers_at es t) (sym (under_both xs ys k)))
  where
    by : (a b : Bool) → middle ≡ (if a then w else old) → new ≡ (if b then w else middle) → new ≡ (if a || b then w else old)
    by true true f s = s
    by true false f s = s ∙ f
    by false true f s = s
    by false false f s = s ∙ f

-- what is made of the first type, and then of the others, is what is made of all
pub next_repaired : (g : TypeEntries) (all more : List TypeEntries) (k : PayloadType) (t : ℤ) (w old new : Option Winner) → all ≡ g ∷ more
    → new ≡ (if any_covers_at (own_entries g k) t then w else old)
    → (if any_covers_at (entries_under more k) t then w else new) ≡ (if any_covers_at (entries_under all k) t then w else old)
next_repaired g all more k t w old new is made =
    by (any_covers_at (own_entries g k) t) (any_covers_at (entries_under more k) t) made
    ∙ ap (λ (b : Bool). if b then w else old)
    (sym (list_any-append (λ e. covers e.span t) (own_entries g k) (entries_under more k)) ∙ ap (λ gs. any_covers_at (entries_under gs k) t) (sym is))
  where
    by : (a b : Bool) → new ≡ (if a then w else old) → (if b then w else new) ≡ (if a || b then w else old)
    by true true h = refl
    by true false h = h
    by false true h = refl
    by false false h = h

pub most_both : (xs ys : List TypeEntries) (writes : List ℕ) (indexes : Indexes) → most_repaired (xs ++ ys) writes indexes ≡ most_repaired xs writes indexes + most_repaired ys writes indexes
most_both [] ys writes indexes = omega arith
most_both (g ∷ xs) ys writes indexes = let rest = most_both xs ys writes indexes in omega (arith, rest)
