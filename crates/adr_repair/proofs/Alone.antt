-- What governs in a whole book is the one candidate of least rank.
use Rattle.std.proofs.Common.{◌≡◌, ◌≢◌, ℕ, ℤ, ◌==◌, Bool, true, false, cond, List, [], ◌∷◌, Option, Some, None, map, filter, refl, subst}
use Rattle.std.specs.List.{IsDistinct}
use Rattle.std.specs.Ordering.{int_eq}
use Rattle.std.proofs.lemmas.Bool.{and_right}
use Rattle.adr_value.specs.declared.payload.PayloadType.{PayloadType}
use Rattle.adr_time.specs.Spans.{covers}
use Rattle.adr_model.specs.declared.entry.Entry.{Entry}
use Rattle.adr_model.specs.declared.entry.Tie.{Tie}
use Rattle.adr_model.specs.declared.timeline.Winner.{Winner}
use Rattle.adr_model.specs.Book.{Book}
use Rattle.adr_model.specs.Governor.{candidates, entries_for, governs}
use Rattle.adr_model.specs.Lists.{In}
use Rattle.adr_model.specs.Rank.{goes_before, ranked}
use Rattle.adr_model.specs.Whole.{IsWhole}
use Rattle.adr_model.proofs.Lists.{In-from_filter, In-from_map, In_from_each, each_from_In}
use Rattle.adr_repair.specs.Ranks.{CandidatesAreApart, GovernsBeforeOthers, IsBeforeOthers, IsGovernor, IsLeast, IsTheGovernor, ranked_candidates, same_mark, same_rank}
use Rattle.adr_repair.proofs.Least.{governor_is_least, one_entry, one_mark}
use Rattle.adr_repair.proofs.Marks.{entries_apart}

-- ---- of distinct elements

-- those that pass are distinct
distinct_passing : {X : Type 0} (same : X → X → Bool) (p : X → Bool) (xs : List X) → IsDistinct same xs → IsDistinct same (filter p xs)
unfolding IsDistinct
distinct_passing same p [] d = tt
distinct_passing {X = X} same p (x ∷ xs) d = by (p x) (distinct_passing same p xs d.1)
  where
    by : (b : Bool) → IsDistinct same (filter p xs) → IsDistinct same (cond b (x ∷ filter p xs) (filter p xs))
    by true rest = (
      each_from_In (λ y. same x y ≡ false) (filter p xs) (λ y m. In_from_each (λ z. same x z ≡ false) xs d.0 y (In-from_filter p xs y m).0),
      rest,
    )
    by false rest = rest

-- and so is what a function makes of them that keeps different ones different
distinct_image : {X Y : Type 0} (same : X → X → Bool) (alike : Y → Y → Bool) (f : X → Y) → ((x y : X) → same x y ≡ false → alike (f x) (f y) ≡ false)
    → (xs : List X) → IsDistinct same xs → IsDistinct alike (map f xs)
unfolding IsDistinct
distinct_image same alike f keeps [] d = tt
distinct_image {X = X} {Y = Y} same alike f keeps (x ∷ xs) d =
    (each_from_In (λ y. alike (f x) y ≡ false) (map f xs) (λ y m. other y (In-from_map f xs y m)), distinct_image same alike f keeps xs d.1)
  where
    other : (y : Y) → ((z : X) × In z xs × (f z ≡ y)) → alike (f x) y ≡ false
    other y (z, there, is) = subst (λ v. alike (f x) v ≡ false) is (keeps x z (In_from_each (λ v. same x v ≡ false) xs d.0 z there))

-- ---- the candidates of an instant

marks_apart : (tie : Tie) (book : Book) → IsWhole book → (id : List ℕ) (kind : PayloadType) (t : ℤ) → IsDistinct same_mark (ranked_candidates tie book id kind t)
unfolding candidates
marks_apart tie book whole id kind t =
    distinct_image same_mark same_mark (ranked tie) (λ x y h. h) (filter (λ e. covers e.span t) (entries_for book id kind))
    (distinct_passing same_mark (λ e. covers e.span t) (entries_for book id kind) (entries_apart kind book id whole.sound))

-- entries of different marks have different ranks
ranks_differ : (x y : Entry) → same_mark x y ≡ false → same_rank x.rank y.rank ≡ false
ranks_differ x y h =
    and_right (x.rank.priority == y.rank.priority) _ (and_right (int_eq x.rank.late y.rank.late) (same_mark x y) h)

pub candidates_apart : CandidatesAreApart
candidates_apart tie book whole id kind t =
    distinct_image same_mark same_rank (λ e. e.rank) ranks_differ (ranked_candidates tie book id kind t) (marks_apart tie book whole id kind t)

-- ---- what governs

-- the least of entries of different marks goes before the others
before_others : (es : List Entry) → IsDistinct same_mark es → (e : Entry) → IsLeast es e → IsBeforeOthers es e
before_others es d e least = (least.0, λ f m other. by f m other (goes_before e.rank f.rank) refl)
  where
    by : (f : Entry) → In f es → f ≢ e → (b : Bool) → goes_before e.rank f.rank ≡ b → b ≡ true
    by f m other true h = refl
    by f m other false h = absurd (other (one_entry es d f e m least.0 (one_mark f.rank e.rank (least.1 f m) h)))

pub governor_before_others : GovernsBeforeOthers
governor_before_others tie book whole id kind t = by (governs tie book id kind t) (governor_is_least tie book id kind t)
  where
    by : (o : Option Winner) → IsGovernor tie book id kind t o → IsTheGovernor tie book id kind t o
    by None none = none
    by (Some w) (e, least, is) = (e, before_others (ranked_candidates tie book id kind t) (marks_apart tie book whole id kind t) e least, is)
