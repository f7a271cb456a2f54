-- What governs is shown: its event is there, with that interval, which has a payload of the type.
use Rattle.std.proofs.Common.{◌≡◌, ℕ, suc, ◌+◌, ◌==◌, ◌||◌, Bool, true, false, cond, List, [], ◌∷◌, filter, flat_map, find, Option, Some, None, is_some, refl, ap, sym, subst, ◌∙◌, eqb, eqb-true, eq-eqb, arith, inl, inr, ◌⊎◌}
use Rattle.std.specs.Prelude.{slice_get}
use Rattle.std.specs.List.{IsDistinct, list_any, zip, cons_option}
use Rattle.std.specs.Bool.{then_some}
use Rattle.std.specs.Option.{option_and_then, option_map, option_map_or}
use Rattle.std.specs.Result.{result_unwrap_or}
use Rattle.std.proofs.lemmas.Bool.{false≢true, both_ways}
use Rattle.adr_value.specs.Same.{same_type}
use Rattle.adr_value.specs.declared.payload.PayloadType.{PayloadType}
use Rattle.adr_time.specs.Spans.{covers}
use Rattle.adr_time.specs.declared.span.Span.{Span}
use Rattle.adr_object.specs.declared.event.Interval.{Interval}
use Rattle.adr_object.specs.declared.event.Payload.{Payload}
use Rattle.adr_object.specs.declared.party.Resource.{Resource}
use Rattle.adr_model.specs.declared.entry.Entry.{Entry}
use Rattle.adr_model.specs.declared.entry.Tie.{Tie}
use Rattle.adr_model.specs.declared.timeline.Winner.{Winner}
use Rattle.adr_model.specs.declared.written.Written.{Written}
use Rattle.adr_model.specs.Layout.{layout}
use Rattle.adr_model.specs.Rank.{carries, ranked}
use Rattle.adr_model.specs.Answer.{Shown, event_written, first_payload, shown_in, shown_of}
use Rattle.adr_model.specs.Book.{Book, resource_by}
use Rattle.adr_model.specs.Governor.{applies_to, candidates, entries_for, entries_of, entry_at, governs, winner_of}
use Rattle.adr_repair.specs.Answers.{GovernorsAreShown}
use Rattle.adr_model.specs.Lists.{In}
use Rattle.adr_repair.specs.Ranks.{IsGovernor}
use Rattle.adr_model.specs.Whole.{IsSound}
use Rattle.adr_model.proofs.Events.{numbers, one_write}
use Rattle.adr_repair.proofs.Inside.{number_of_entry}
use Rattle.adr_repair.proofs.Least.{governor_is_least}
use Rattle.adr_model.proofs.Lists.{In-from_filter, In-from_flat_map, In-from_map}
use Rattle.adr_repair.proofs.Marks.{entries_from}

-- where one passes, one is found
pub found-any : {X : Type 0} (p : X → Bool) (xs : List X) → is_some (find p xs) ≡ list_any p xs
found-any p [] = refl
found-any p (x ∷ xs) = by (p x) (found-any p xs)
  where
    by : (b : Bool) → is_some (find p xs) ≡ list_any p xs → is_some (cond b (Some x) (find p xs)) ≡ (b || list_any p xs)
    by true rest = refl
    by false rest = rest

-- of distinct numbers, each leads to its own write
own_write : (es : List Written) → IsDistinct eqb (numbers es) → (v : Written) → In v es → find (λ w. v.written == w.written) es ≡ Some v
unfolding IsDistinct
own_write [] d v m = absurd m
own_write (y ∷ ys) d v m = by (v.written == y.written) refl m (own_write ys d.1 v)
  where
    other : y ≡ v → (v.written == y.written) ≡ true
    other e = eq-eqb v.written y.written (ap (λ (w : Written). w.written) (sym e))

    by : (b : Bool) → (v.written == y.written) ≡ b → (y ≡ v) ⊎ In v ys → (In v ys → find (λ w. v.written == w.written) ys ≡ Some v)
        → cond b (Some y) (find (λ w. v.written == w.written) ys) ≡ Some v
    by true t n rest = ap Some (one_write (y ∷ ys) d y v (inl refl) n (sym (eqb-true v.written y.written t)))
    by false t (inl e) rest = absurd (both_ways (v.written == y.written) t (other e))
    by false t (inr n) rest = rest n

-- the interval of an entry, at its place, carries the type
abbrev pub IsPlaced : PayloadType → List Interval → ℕ → Type 0
IsPlaced kind is place = (i : Interval) × (slice_get is place ≡ Some i) × (carries i kind ≡ true)

placed_from : (kind : PayloadType) (w : Written) (n : ℕ) (is : List Interval) (spans : List Span) (x : Entry)
    → In x (entries_from kind w n (zip is spans)) → (k : ℕ) × (x.rank.place ≡ n + k) × IsPlaced kind is k
placed_from kind w n [] spans x m = absurd m
placed_from kind w n (i ∷ is) [] x m = absurd m
placed_from kind w n (i ∷ is) (s ∷ spans) x m = by (carries i kind) refl (placed_from kind w (n + 1) is spans x) m
  where
    later : (k : ℕ) × (x.rank.place ≡ n + 1 + k) × IsPlaced kind is k → (k : ℕ) × (x.rank.place ≡ n + k) × IsPlaced kind (i ∷ is) k
    later (k, e, p) = (suc k, omega (arith, e), p)

    by : (c : Bool) → carries i kind ≡ c
        → (In x (entries_from kind w (n + 1) (zip is spans)) → (k : ℕ) × (x.rank.place ≡ n + 1 + k) × IsPlaced kind is k)
        → In x (cons_option (then_some c (entry_at w n s)) (entries_from kind w (n + 1) (zip is spans)))
        → (k : ℕ) × (x.rank.place ≡ n + k) × IsPlaced kind (i ∷ is) k
    by true c rest (inl e) = let place : n ≡ x.rank.place = ap (λ (y : Entry). y.rank.place) e in (0, omega (arith, place), (i, refl, c))
    by true c rest (inr k) = later (rest k)
    by false c rest k = later (rest k)

pub placed : (kind : PayloadType) (w : Written) (x : Entry) → In x (entries_of kind w) → IsPlaced kind w.event.intervals x.rank.place
placed kind w x m =
    let (k, e, p) = placed_from kind w 0 w.event.intervals (result_unwrap_or (layout w.event) []) x m in
    let place : k ≡ x.rank.place = omega (arith, e) in
    subst (λ n. IsPlaced kind w.event.intervals n) place p

-- the write of an entry is in the book
pub event_of_entry : (book : Book) (id : List ℕ) (kind : PayloadType) (x : Entry) → In x (entries_for book id kind) → (w : Written) × In w book.events × In x (entries_of kind w)
event_of_entry book id kind x = by (resource_by book id)
  where
    by : (o : Option Resource) → In x (option_map_or (λ r. flat_map (entries_of kind) (filter (applies_to book r) book.events)) o [])
        → (w : Written) × In w book.events × In x (entries_of kind w)
    by None m = absurd m
    by (Some r) m =
        let (w, there, here) = In-from_flat_map (entries_of kind) (filter (applies_to book r) book.events) x m in
        (w, (In-from_filter (applies_to book r) book.events w there).0, here)

-- an interval that carries the type shows its first payload of it
shown_there : (kind : PayloadType) (w : Written) (place : ℕ) → IsPlaced kind w.event.intervals place → is_some (shown_in kind place w) ≡ true
shown_there kind w place (i, at, c) = rw at (by (first_payload kind i.payloads) (found-any (λ p. same_type p.kind kind) i.payloads ∙ c))
  where
    by : (o : Option Payload) → is_some o ≡ true → is_some {T = Shown} (option_map (λ p. record { event = w.event.id; interval = i.id; values = p.values }) o) ≡ true
    by None h = absurd (false≢true h)
    by (Some p) h = refl

-- the winner of an entry of the book is shown
winner_shown : (tie : Tie) (book : Book) → IsSound book → (id : List ℕ) (kind : PayloadType) (x : Entry) → In x (entries_for book id kind)
    → is_some (shown_of book kind (winner_of (ranked tie x))) ≡ true
winner_shown tie book s id kind x m =
    let (w, there, here) = event_of_entry book id kind x m in
    let written : event_written book x.rank.written ≡ Some w = ap (event_written book) (number_of_entry kind w x here) ∙ own_write book.events s.writes w there in
    rw written (shown_there kind w x.rank.place (placed kind w x here))

pub governors_are_shown : GovernorsAreShown
unfolding candidates
governors_are_shown tie book s id kind t = by (governs tie book id kind t) (governor_is_least tie book id kind t)
  where
    by : (o : Option Winner) → IsGovernor tie book id kind t o → is_some (option_and_then (shown_of book kind) o) ≡ is_some o
    by None none = refl
    by (Some w) (e, least, is) =
        let (x, there, same) = In-from_map (ranked tie) (candidates book id kind t) e least.0 in
        let listed = In-from_filter (λ (y : Entry). covers y.span t) (entries_for book id kind) x there in
        let winner : winner_of (ranked tie x) ≡ w = ap winner_of same ∙ sym is in
        subst (λ v. is_some (shown_of book kind v) ≡ true) winner (winner_shown tie book s.sound id kind x listed.0)
