-- Numbers in order, and the events that have them.
use Rattle.std.proofs.Common.{◌≡◌, ℕ, zero, suc, ◌+◌, ◌<◌, ◌⊎◌, inl, inr, ◌==◌, ◌||◌, Bool, true, false, List, [], ◌∷◌, ◌++◌, map, length, slice_index, slice_get, take, if◌then◌else◌, Option, Some, None, refl, ap, sym, subst, ◌∙◌, arith, eqb-true, eq-eqb}
use Rattle.std.specs.List.Sorted.{IsStrictlyIncreasing}
use Rattle.std.specs.Option.{option_map}
use Rattle.std.proofs.lemmas.Bool.{both_ways}
use Rattle.adr_object.specs.declared.event.Event.{Event}
use Rattle.adr_store.specs.Numbers.{by_number}
use Rattle.adr_model.specs.declared.written.Written.{Written}
use Rattle.adr_model.specs.Lists.{In}
use Rattle.adr_model.proofs.Lists.{filter_all}
use Rattle.adr_lines.specs.Grouped.{written_event}
use Rattle.adr_lines.specs.Right.{has_number}
use Rattle.adr_regroup.proofs.PartyWindows.{found_event, found_number}
use Rattle.adr_desk.specs.Bulk.{chosen}

-- ---- ascending numbers

pub ascend_tail : (x : ℕ) (xs : List ℕ) → IsStrictlyIncreasing (x ∷ xs) → IsStrictlyIncreasing xs
ascend_tail x xs up k h =
    let next : suc k + 1 ≡ suc (k + 1) = omega arith in
    subst (λ j. slice_index (x ∷ xs) (suc k) < slice_index (x ∷ xs) j) next (up (suc k) (omega (arith, h)))

-- the first one is below all others
pub first_below : (x : ℕ) (xs : List ℕ) → IsStrictlyIncreasing (x ∷ xs) → (m : ℕ) → has_number xs m ≡ true → x < m
first_below x [] up m h = absurd (cc)
first_below x (y ∷ ys) up m h = by (y == m) refl h (λ k. first_below y ys (ascend_tail x (y ∷ ys) up) m k)
  where
    lower : x < y
    lower =
        let next : zero + 1 ≡ suc zero = omega arith in
        subst (λ j. slice_index (x ∷ y ∷ ys) zero < slice_index (x ∷ y ∷ ys) j) next (up zero (omega arith))

    by : (b : Bool) → (y == m) ≡ b → (b || has_number ys m) ≡ true → (has_number ys m ≡ true → y < m) → x < m
    by true e k later = let same = eqb-true y m e in omega (arith, same, lower)
    by false e k later = let above = later k in omega (arith, lower, above)

-- ---- the event of a number

pub none_found : (es : List Written) (n : ℕ) → by_number es n ≡ None → (w : Written) → In w es → (n == w.written) ≡ true → ⊥
none_found [] n h w m e = absurd m
none_found (x ∷ xs) n h w m e = by (x.written == n) refl h m (λ f k. none_found xs n f w k e)
  where
    own : x ≡ w → (x.written == n) ≡ true
    own same = eq-eqb x.written n (ap (λ (y : Written). y.written) same ∙ sym (eqb-true n w.written e))

    by : (b : Bool) → (x.written == n) ≡ b → (if b then Some x else by_number xs n) ≡ None → (x ≡ w) ⊎ In w xs → (by_number xs n ≡ None → In w xs → ⊥) → ⊥
    by true k found m later = absurd (cc found)
    by false k found (inl same) later = both_ways (x.written == n) k (own same)
    by false k found (inr m) later = later found m

-- the event that is found by a number, from what was found of it
pub event_of : (events : List Written) (n : ℕ) (e : Event) → Some e ≡ option_map (λ (w : Written). w.event) (by_number events n) → by_number events n ≡ Some (written_event e n)
event_of events n e h =
    let f = found_event (by_number events n) e h in
    let w = f.0 in
    let same : w ≡ written_event e n = ap (λ m. written_event w.event m) (found_number events n w f.1).1 ∙ ap (λ x. written_event x n) f.2 in
    f.1 ∙ ap (λ (x : Written). Some x) same

pub no_event : (o : Option Written) → None ≡ option_map (λ (w : Written). w.event) o → o ≡ None
no_event None h = refl
no_event (Some w) h = absurd (cc)

-- ---- all numbers

in_numbers : (es : List Written) (w : Written) → In w es → has_number (map (λ (v : Written). v.written) es) w.written ≡ true
in_numbers [] w m = absurd m
in_numbers (e ∷ es) w (inl same) = ap (λ b. b || has_number (map (λ (v : Written). v.written) es) w.written) (eq-eqb e.written w.written (ap (λ (v : Written). v.written) same))
in_numbers (e ∷ es) w (inr m) = by (e.written == w.written) (in_numbers es w m)
  where
    by : (b : Bool) → has_number (map (λ (v : Written). v.written) es) w.written ≡ true → (b || has_number (map (λ (v : Written). v.written) es) w.written) ≡ true
    by true h = refl
    by false h = h

pub all_chosen : (events : List Written) (numbers writes : List ℕ) → numbers ≡ map (λ w. w.written) events → ((n : ℕ) → has_number writes n ≡ has_number numbers n) → chosen events writes ≡ events
all_chosen events numbers writes e same =
    filter_all (λ w. has_number writes w.written) events (λ w m. same w.written ∙ ap (λ ns. has_number ns w.written) e ∙ in_numbers events w m)

take_next : (events : List Written) (p : ℕ) (w : Written) → slice_get events p ≡ Some w → map (λ (v : Written). v.written) (take (suc p) events) ≡ map (λ (v : Written). v.written) (take p events) ++ w.written ∷ []
take_next [] p w h = absurd (cc)
take_next (e ∷ es) zero w h = let o : Some e ≡ Some w = h in let same : e ≡ w = cc o in ap (λ (v : Written). v.written ∷ []) same
take_next (e ∷ es) (suc p) w h = ap (λ ns. e.written ∷ ns) (take_next es p w h)

found_there : (o : Option Written) (n : ℕ) → Some n ≡ option_map (λ (w : Written). w.written) o → (w : Written) × (o ≡ Some w) × (w.written ≡ n)
found_there None n h = absurd (cc)
found_there (Some w) n h = let same : w.written ≡ n = cc in (w, refl, same)

-- the number of one event more
pub next_number : (events : List Written) (place n : ℕ) (numbers more : List ℕ) → Some n ≡ option_map (λ (w : Written). w.written) (slice_get events place)
    → numbers ≡ map (λ w. w.written) (take place events) → more ≡ numbers ++ n ∷ [] → more ≡ map (λ w. w.written) (take (place + 1) events)
next_number events place n numbers more found old made =
    let f = found_there (slice_get events place) n found in
    let next : suc place ≡ place + 1 = omega arith in
    made ∙ ap (λ ns. ns ++ n ∷ []) old ∙ ap (λ m. map (λ (v : Written). v.written) (take place events) ++ m ∷ []) (sym f.2)
    ∙ sym (take_next events place f.0 f.1) ∙ ap (λ k. map (λ (v : Written). v.written) (take k events)) next

pub number_there : (events : List Written) (place : ℕ) → place < length events → None ≡ option_map (λ (w : Written). w.written) (slice_get events place) → ⊥
number_there [] place h none = absurd (omega (arith, h))
number_there (e ∷ es) zero h none = absurd (cc none)
number_there (e ∷ es) (suc p) h none = number_there es p (omega (arith, h)) none
