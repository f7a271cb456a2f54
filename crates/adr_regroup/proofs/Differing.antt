-- What a place compares that gets the writes of the events that apply to its resource.
use Rattle.std.proofs.Common.{◌≡◌, ℕ, suc, ◌+◌, ◌≤◌, ◌<◌, ◌==◌, ◌||◌, Bool, true, false, if◌then◌else◌, List, [], ◌∷◌, length, slice_get, slice_index, sum_by, Option, Some, None, refl, ap, ap₂, sym, subst, ◌∙◌, arith, eqb-true, eq-eqb}
use Rattle.std.proofs.lemmas.Bool.{false_from_ne_true}
use Rattle.std.proofs.lemmas.List.Sums.{sum_by-cons}
use Rattle.std.proofs.lemmas.Option.{slice_get_within}
use Rattle.std.specs.List.Sorted.{IsStrictlyIncreasing}
use Rattle.std.specs.Option.{option_map_or}
use Rattle.adr_object.specs.declared.party.Resource.{Resource}
use Rattle.adr_model.specs.declared.entry.Tie.{Tie}
use Rattle.adr_model.specs.declared.written.Written.{Written}
use Rattle.adr_model.specs.Book.{Book}
use Rattle.adr_model.specs.Governor.{applies_to}
use Rattle.adr_model.specs.Lists.{In}
use Rattle.adr_model.specs.Touches.{touches_of}
use Rattle.adr_model.specs.Whole.{IsWhole}
use Rattle.adr_model.proofs.Keyed.{own_key}
use Rattle.adr_store.specs.Numbers.{by_number}
use Rattle.adr_lines.specs.Right.{has_number}
use Rattle.adr_lines.specs.declared.indexes.Indexes.{Indexes}
use Rattle.adr_lines.specs.Exchange.{IsIndexOf}
use Rattle.adr_group.specs.Group.{Lines}
use Rattle.adr_schedule.specs.Place.{IsRewritten}
use Rattle.adr_schedule.specs.Seating.{group_at, has_at, Seating}
use Rattle.adr_regroup.specs.Compared.{cost_but, cost_unless, differ, most_compared_in, most_differing, most_reseated_at, IsMostFor}
use Rattle.adr_regroup.specs.Party.{AreWritesAt}
use Rattle.adr_regroup.proofs.EventTouches.{event_cost}
use Rattle.adr_regroup.proofs.Meeting.{compares_no_more}
use Rattle.adr_regroup.proofs.Placing.{number_at}
use Rattle.adr_regroup.proofs.Sums.{sum_rises, sum_two}
use Rattle.adr_regroup.proofs.Turned.{In_at}

-- ---- ascending numbers

later_rise : (x : ℕ) (xs : List ℕ) → IsStrictlyIncreasing (x ∷ xs) → IsStrictlyIncreasing xs
later_rise x xs up k h =
    let next : suc k + 1 ≡ suc (k + 1) = omega arith in
    subst (λ m. slice_index (x ∷ xs) (suc k) < slice_index (x ∷ xs) m) next (up (suc k) (omega (arith, h)))

later_above : (x : ℕ) (xs : List ℕ) (n : ℕ) → IsStrictlyIncreasing (x ∷ xs) → has_number xs n ≡ true → x < n
later_above x [] n up h = absurd (cc)
later_above x (y ∷ ys) n up h = by (y == n) refl h (later_above y ys n (later_rise x (y ∷ ys) up))
  where
    first : x < y
    first = up 0 (omega arith)

    by : (b : Bool) → (y == n) ≡ b → (b || has_number ys n) ≡ true → (has_number ys n ≡ true → y < n) → x < n
    by true e k later = let same : y ≡ n = eqb-true y n e in omega (arith, first, same)
    by false e k later = let more = later k in omega (arith, first, more)

not_later : (x : ℕ) (xs : List ℕ) → IsStrictlyIncreasing (x ∷ xs) → has_number xs x ≡ false
not_later x xs up = false_from_ne_true (has_number xs x) (λ h. let more = later_above x xs x up h in omega (arith, more))

-- ---- what numbers cost, by the events

module _ (cost : Written → ℕ) (others : List ℕ) where
  -- the cost of an event whose number is there and not among the others
  abbrev own : List ℕ → Written → ℕ
  own numbers w = if has_number numbers w.written then (if has_number others w.written then 0 else cost w) else 0

  own_rises : (n : ℕ) (numbers : List ℕ) (w : Written) → own numbers w ≤ own (n ∷ numbers) w
  own_rises n numbers w = by (n == w.written) (has_number numbers w.written)
    where
      by : (a b : Bool) → (if b then (if has_number others w.written then 0 else cost w) else 0) ≤ (if a || b then (if has_number others w.written then 0 else cost w) else 0)
      by true true = omega arith
      by true false = omega arith
      by false b = omega arith

  one_more : (n : ℕ) (numbers : List ℕ) → has_number numbers n ≡ false → (events : List Written) → cost_unless cost events others n + sum_by (own numbers) events ≤ sum_by (own (n ∷ numbers)) events
  one_more n numbers apart [] = by (has_number others n)
    where
      by : (b : Bool) → (if b then 0 else 0) + 0 ≤ 0
      by true = omega arith
      by false = omega arith
  one_more n numbers apart (w ∷ ws) = by (w.written == n) refl (one_more n numbers apart ws)
    where
      by : (b : Bool) → (w.written == n) ≡ b → cost_unless cost ws others n + sum_by (own numbers) ws ≤ sum_by (own (n ∷ numbers)) ws
          → (if has_number others n then 0 else option_map_or cost (if b then Some w else by_number ws n) 0) + sum_by (own numbers) (w ∷ ws) ≤ sum_by (own (n ∷ numbers)) (w ∷ ws)
      by true e rest =
          let same : w.written ≡ n = eqb-true w.written n e in
          let none : own numbers w ≡ 0 = ap (λ (b : Bool). if b then (if has_number others w.written then 0 else cost w) else 0) (ap (has_number numbers) same ∙ apart) in
          let here : own (n ∷ numbers) w ≡ (if has_number others n then 0 else cost w) =
          ap (λ (b : Bool). if b || has_number numbers w.written then (if has_number others w.written then 0 else cost w) else 0) (eq-eqb n w.written (sym same))
          ∙ ap (λ (m : ℕ). if has_number others m then 0 else cost w) same in
          let more = sum_rises (own numbers) (own (n ∷ numbers)) ws (λ v m. own_rises n numbers v) in
          omega (arith, none, here, more, sum_by-cons (own numbers) w ws, sum_by-cons (own (n ∷ numbers)) w ws)
      by false e rest = let more = own_rises n numbers w in omega (arith, rest, more, sum_by-cons (own numbers) w ws, sum_by-cons (own (n ∷ numbers)) w ws)

  numbers_cost : (events : List Written) (numbers : List ℕ) → IsStrictlyIncreasing numbers → cost_but cost events numbers others ≤ sum_by (own numbers) events
  numbers_cost events [] up = omega arith
  numbers_cost events (n ∷ numbers) up =
      let rest = numbers_cost events numbers (later_rise n numbers up) in
      let more = one_more n numbers (not_later n numbers up) events in
      omega (arith, rest, more, sum_by-cons (cost_unless cost events others) n numbers)

both_cost : (cost : Written → ℕ) (events : List Written) (old new : List ℕ) → IsStrictlyIncreasing old → IsStrictlyIncreasing new
    → cost_but cost events old new + cost_but cost events new old ≤ sum_by (λ w. if differ (has_number old w.written) (has_number new w.written) then cost w else 0) events
both_cost cost events old new up rise =
    let first = numbers_cost cost new events old up in
    let second = numbers_cost cost old events new rise in
    let both = sum_two (own cost new old) (own cost old new) (λ w. if differ (has_number old w.written) (has_number new w.written) then cost w else 0) events
    (λ w. by w (has_number old w.written) (has_number new w.written)) in
    omega (arith, first, second, both)
  where
    by : (w : Written) (a b : Bool) → (if a then (if b then 0 else cost w) else 0) + (if b then (if a then 0 else cost w) else 0) ≤ (if differ a b then cost w else 0)
    by w true true = omega arith
    by w true false = omega arith
    by w false true = omega arith
    by w false false = omega arith

-- ---- a place

module _ (book : Book) (place : ℕ) (r : Resource) (numbers : List ℕ) (at : slice_get book.resources place ≡ Some r) (own_writes : AreWritesAt book place numbers) where
  pub place_cost : (s : Seating) (g : Lines) → group_at s place ≡ Some g → IsStrictlyIncreasing g.writes → IsStrictlyIncreasing numbers
      → cost_but (λ w. most_compared_in book (touches_of r.id w)) book.events g.writes numbers + cost_but (λ w. most_compared_in book (touches_of r.id w)) book.events numbers g.writes
      ≤ most_reseated_at book s place
  unfolding most_reseated_at
  place_cost s g there up rise =
      let both = both_cost (λ w. most_compared_in book (touches_of r.id w)) book.events g.writes numbers up rise in
      let each = sum_rises (λ w. if differ (has_number g.writes w.written) (has_number numbers w.written) then most_compared_in book (touches_of r.id w) else 0)
      (λ w. if differ (has_at s place w.written) (applies_to book r w) then most_compared_in book (touches_of r.id w) else 0) book.events (λ w m. same w m) in
      let all : option_map_or (most_differing book s place) (slice_get book.resources place) 0 ≡ most_differing book s place r = ap (λ (o : Option Resource). option_map_or (most_differing book s place) o 0) at in
      omega (arith, both, each, all)
    where
      same : (w : Written) → In w book.events
          → (if differ (has_number g.writes w.written) (has_number numbers w.written) then most_compared_in book (touches_of r.id w) else 0)
          ≤ (if differ (has_at s place w.written) (applies_to book r w) then most_compared_in book (touches_of r.id w) else 0)
      same w m =
          let e = ap₂ (λ (a b : Bool). if differ a b then most_compared_in book (touches_of r.id w) else 0) (number_at s place g w.written there) (own_writes.has r w at m) in
          omega (arith, e)

  pub most_for : (tie : Tie) (indexes : Indexes) → IsWhole book → IsIndexOf tie book.events indexes → IsMostFor tie book.events indexes numbers (λ w. most_compared_in book (touches_of r.id w))
  most_for tie indexes whole indexed w groups m own are =
      event_cost numbers indexes tie w groups own are book r.id
      (compares_no_more tie book.events indexes indexed book r (own_key (λ (q : Resource). q.id) book.resources whole.resource_ids r (In_at book.resources place r at)) numbers
      (λ v n h. (n, sym (own_writes.has r v at n) ∙ h)))

-- what the event asks of the resource where it had it or not
abbrev asked : Book → Resource → Written → Bool → ℕ
asked book r w had = if differ had (applies_to book r w) then most_compared_in book (touches_of r.id w) else 0

-- and then no place compares more than it did before
pub reseats_fewer : (book : Book) (place : ℕ) (numbers : List ℕ) (s after : Seating) → length s.seats ≡ length book.resources → IsRewritten place numbers s after → AreWritesAt book place numbers
    → (p : ℕ) → most_reseated_at book after p ≤ most_reseated_at book s p
unfolding most_reseated_at
reseats_fewer book place numbers s after count rewritten own_writes p = by (slice_get book.resources p) refl
  where
    one : (r : Resource) → slice_get book.resources p ≡ Some r → (w : Written) → In w book.events → (b : Bool) → (p == place) ≡ b → asked book r w (has_at after p w.written) ≤ asked book r w (has_at s p w.written)
    one r at w m true e =
        let inside : p < length s.seats = subst (λ n. p < n) (sym count) (slice_get_within book.resources p r at) in
        let here : slice_get book.resources place ≡ Some r = subst (λ q. slice_get book.resources q ≡ Some r) (eqb-true p place e) at in
        let now : has_at after p w.written ≡ applies_to book r w =
        rewritten.writes p w.written inside ∙ ap (λ (c : Bool). if c then has_number numbers w.written else has_at s p w.written) e ∙ own_writes.has r w here m in
        let none : asked book r w (has_at after p w.written) ≡ 0 = ap (asked book r w) now ∙ agree (applies_to book r w) in
        omega (arith, none)
      where
        agree : (c : Bool) → (if differ c c then most_compared_in book (touches_of r.id w) else 0) ≡ 0
        agree true = refl
        agree false = refl
    one r at w m false e =
        let inside : p < length s.seats = subst (λ n. p < n) (sym count) (slice_get_within book.resources p r at) in
        let now : has_at after p w.written ≡ has_at s p w.written = rewritten.writes p w.written inside ∙ ap (λ (c : Bool). if c then has_number numbers w.written else has_at s p w.written) e in
        let same : asked book r w (has_at after p w.written) ≡ asked book r w (has_at s p w.written) = ap (asked book r w) now in
        omega (arith, same)

    by : (o : Option Resource) → slice_get book.resources p ≡ o → option_map_or (most_differing book after p) o 0 ≤ option_map_or (most_differing book s p) o 0
    by None e = omega arith
    by (Some r) e = sum_rises (λ w. asked book r w (has_at after p w.written)) (λ w. asked book r w (has_at s p w.written)) book.events (λ w m. one r e w m (p == place) refl)
