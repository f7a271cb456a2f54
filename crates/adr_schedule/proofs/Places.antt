-- A place that comes last, one that goes, and one that moves to another slot.
use Rattle.std.proofs.Common.{◌≡◌, ℕ, zero, suc, ◌==◌, ◌<◌, ◌≤◌, ◌+◌, ◌⊎◌, inl, inr, Bool, true, false, nat_lt, if◌then◌else◌, List, [], ◌∷◌, ◌++◌, remove, length, slice_get, Option, Some, None, refl, ap, sym, subst, ◌∙◌, arith, eqb-true, eq-eqb, ltb-true, ltb-false, ne_eqb}
use Rattle.std.proofs.lemmas.Bool.{both_ways}
use Rattle.std.specs.Option.{option_and_then, option_map_or}
use Rattle.adr_shared.specs.Map.{put, without}
use Rattle.adr_model.specs.declared.entry.Tie.{Tie}
use Rattle.adr_model.specs.declared.written.Written.{Written}
use Rattle.adr_lines.specs.Right.{has_number}
use Rattle.adr_group.specs.Group.{Lines, IsRightOf}
use Rattle.adr_schedule.specs.Moves.{is_among, AreMoved, IsNext, IsSat}
use Rattle.adr_schedule.specs.Place.{HasPlace, HasValue, IsPlaced, IsRewritten, LacksPlace, StaysRight}
use Rattle.adr_schedule.specs.Seating.{group_at, has_at, AreRight, Seating}
use Rattle.adr_schedule.specs.Slots.{in_slot, is_taken, value_at, AreSeated}
use Rattle.adr_schedule.proofs.Numbered.{one_or_other, put_here, put_elsewhere, taken_here, taken_elsewhere, has_place, place_of_taken}
use Rattle.adr_schedule.proofs.Shifts.{place_there}
use Rattle.adr_schedule.proofs.Seated.{some_same, none_is_some, at_slot, slot_of, sat_moving, sat_moved}

-- ---- one element more, last

pub last_of : (xs : List ℕ) (y : ℕ) → slice_get (xs ++ y ∷ []) (length xs) ≡ Some y
last_of [] y = refl
last_of (x ∷ xs) y = last_of xs y

pub before_last : (xs : List ℕ) (y p x : ℕ) → slice_get xs p ≡ Some x → slice_get (xs ++ y ∷ []) p ≡ Some x
before_last [] y p x h = absurd (cc)
before_last (z ∷ zs) y zero x h = h
before_last (z ∷ zs) y (suc p) x h = before_last zs y p x h

pub last_or_before : (xs : List ℕ) (y p x : ℕ) → slice_get (xs ++ y ∷ []) p ≡ Some x → (slice_get xs p ≡ Some x) ⊎ ((p ≡ length xs) × (y ≡ x))
last_or_before [] y zero x h = inr (refl, some_same y x h)
last_or_before [] y (suc p) x h = absurd (cc)
last_or_before (z ∷ zs) y zero x h = inl h
last_or_before (z ∷ zs) y (suc p) x h = by (last_or_before zs y p x h)
  where
    by : (slice_get zs p ≡ Some x) ⊎ ((p ≡ length zs) × (y ≡ x)) → (slice_get (z ∷ zs) (suc p) ≡ Some x) ⊎ ((suc p ≡ length (z ∷ zs)) × (y ≡ x))
    by (inl e) = inl e
    by (inr e) = inr (ap (λ n. suc n) e.0, e.1)

pub count_last : (xs : List ℕ) (y : ℕ) → length (xs ++ y ∷ []) ≡ length xs + 1
count_last [] y = refl
count_last (x ∷ xs) y = omega (arith, count_last xs y)

module _ (seats : List ℕ) (groups : List (List ℕ × Lines)) (free : ℕ) (g : Lines)
    (old : AreSeated seats groups) (untaken : is_taken seats free ≡ false) where
  abbrev more : List ℕ
  more = seats ++ free ∷ []

  abbrev later : List (List ℕ × Lines)
  later = put (free ∷ []) g groups

  not_free : (p s : ℕ) → slice_get seats p ≡ Some s → s ≡ free → ⊥
  not_free p s k e = both_ways (is_taken seats free) untaken (has_place seats p free (k ∙ ap (λ x. Some x) e))

  -- what there was is there still
  there : (p s : ℕ) (x : Lines) → slice_get seats p ≡ Some s → in_slot groups s ≡ Some x → in_slot later s ≡ Some x
  there p s x k h = put_elsewhere groups free s g (not_free p s k) ∙ h

  pub added_seated : AreSeated more later
  added_seated = record {
    held = λ p s k. held p s (last_or_before seats free p s k);
    taken = λ s x k. taken s x k (one_or_other s free);
  }
    where
      held : (p s : ℕ) → (slice_get seats p ≡ Some s) ⊎ ((p ≡ length seats) × (free ≡ s)) → (x : Lines) × (in_slot later s ≡ Some x)
      held p s (inl k) = let r = old.held p s k in (r.0, there p s r.0 k r.1)
      held p s (inr e) = (g, subst (λ z. in_slot later z ≡ Some g) e.1 (put_here groups free g))

      taken : (s : ℕ) (x : Lines) → in_slot later s ≡ Some x → (s ≡ free) ⊎ (s ≡ free → ⊥) → is_taken more s ≡ true
      taken s x k (inl e) = has_place more (length seats) s (last_of seats free ∙ ap (λ z. Some z) (sym e))
      taken s x k (inr a) = let q = place_of_taken seats s (old.taken s x (sym (put_elsewhere groups free s g a) ∙ k)) in has_place more q.0 s (before_last seats free q.0 s q.1)

  abbrev before : Seating
  before = record { seats = seats; groups = groups }

  abbrev after : Seating
  after = record { seats = more; groups = later }

  last_group : group_at after (length seats) ≡ Some g
  last_group = at_slot more later (length seats) free (last_of seats free) ∙ put_here groups free g

  pub added_place : g.writes ≡ [] → HasPlace before after
  added_place none = record {
    count = count_last seats free;
    others = λ p x k. let s = slot_of seats groups p x k in at_slot more later p s.0 (before_last seats free p s.0 s.1) ∙ there p s.0 x s.1 s.2;
    none = λ n. ap (λ o. option_map_or (λ x. has_number x.writes n) o false) last_group ∙ ap (λ ns. has_number ns n) none;
  }

  pub added_right : ((tie : Tie) (events : List Written) → IsRightOf tie events g) → StaysRight before after
  added_right right tie events was p x k = let s = slot_of more later p x k in by s.0 s.2 (last_or_before seats free p s.0 s.1)
    where
      by : (s : ℕ) → in_slot later s ≡ Some x → (slice_get seats p ≡ Some s) ⊎ ((p ≡ length seats) × (free ≡ s)) → IsRightOf tie events x
      by s h (inl e) = was p x (at_slot seats groups p s e ∙ sym (put_elsewhere groups free s g (not_free p s e)) ∙ h)
      by s h (inr e) = subst (λ z. IsRightOf tie events z) (some_same g x (sym (put_here groups free g) ∙ subst (λ z. in_slot later z ≡ Some x) (sym e.1) h)) (right tie events)

module _ (s : Seating) (free : ℕ) (g : Lines) (old : AreSeated s.seats s.groups) (untaken : is_taken s.seats free ≡ false)
    (seats : List ℕ) (groups : List (List ℕ × Lines)) (more_seats : seats ≡ s.seats ++ free ∷ []) (more_groups : groups ≡ put (free ∷ []) g s.groups) where
  pub comes_seated : AreSeated seats groups
  comes_seated = rw (more_seats, more_groups) (added_seated s.seats s.groups free g old untaken)

  pub comes_last : g.writes ≡ [] → HasPlace s (record { seats = seats; groups = groups })
  comes_last none = rw (more_seats, more_groups) (added_place s.seats s.groups free g old untaken none)

  pub comes_right : ((tie : Tie) (events : List Written) → IsRightOf tie events g) → StaysRight s (record { seats = seats; groups = groups })
  comes_right right = rw (more_seats, more_groups) (added_right s.seats s.groups free g old untaken right)

-- ---- one element less

before_gone : {X : Type 0} (xs : List X) (place p : ℕ) → p < place → slice_get (remove xs place) p ≡ slice_get xs p
before_gone [] zero p h = absurd (omega arith)
before_gone [] (suc place) p h = refl
before_gone (x ∷ xs) zero p h = absurd (omega arith)
before_gone (x ∷ xs) (suc place) zero h = refl
before_gone (x ∷ xs) (suc place) (suc p) h = before_gone xs place p (omega arith)

behind_gone : {X : Type 0} (xs : List X) (place p : ℕ) → place ≤ p → slice_get (remove xs place) p ≡ slice_get xs (suc p)
behind_gone [] zero p h = refl
behind_gone [] (suc place) p h = refl
behind_gone (x ∷ xs) zero p h = refl
behind_gone (x ∷ xs) (suc place) zero h = absurd (omega arith)
behind_gone (x ∷ xs) (suc place) (suc p) h = behind_gone xs place p (omega arith)

-- where the place was before
abbrev pub was_at : ℕ → ℕ → ℕ
was_at place p = if nat_lt p place then p else p + 1

pub after_gone : {X : Type 0} (xs : List X) (place p : ℕ) → slice_get (remove xs place) p ≡ slice_get xs (was_at place p)
after_gone xs place p = by (nat_lt p place) refl
  where
    by : (b : Bool) → nat_lt p place ≡ b → slice_get (remove xs place) p ≡ slice_get xs (if b then p else p + 1)
    by true e = before_gone xs place p (ltb-true p place e)
    by false e = let next : p + 1 ≡ suc p = omega arith in rw next (behind_gone xs place p (ltb-false p place e))

-- and where it is now, but for the one that is gone
pub still_there : (xs : List ℕ) (place p : ℕ) → (p ≡ place → ⊥) → (q : ℕ) × (slice_get (remove xs place) q ≡ slice_get xs p)
still_there xs place zero apart = by place apart
  where
    by : (place : ℕ) → (zero ≡ place → ⊥) → (q : ℕ) × (slice_get (remove xs place) q ≡ slice_get xs zero)
    by zero a = absurd (a refl)
    by (suc place) a = (zero, before_gone xs (suc place) zero (omega arith))
still_there xs place (suc p) apart = by (nat_lt (suc p) place) refl
  where
    by : (b : Bool) → nat_lt (suc p) place ≡ b → (q : ℕ) × (slice_get (remove xs place) q ≡ slice_get xs (suc p))
    by true e = (suc p, before_gone xs place (suc p) (ltb-true (suc p) place e))
    by false e = (p, behind_gone xs place p (omega (arith, ltb-false (suc p) place e, apart)))

pub count_gone : {X : Type 0} (xs : List X) (place : ℕ) (x : X) → slice_get xs place ≡ Some x → length (remove xs place) + 1 ≡ length xs
count_gone [] place x h = absurd (cc)
count_gone (y ∷ ys) zero x h = omega arith
count_gone (y ∷ ys) (suc place) x h = omega (arith, count_gone ys place x h)

module _ (seats : List ℕ) (groups : List (List ℕ × Lines)) (place slot : ℕ)
    (old : AreSeated seats groups) (at : slice_get seats place ≡ Some slot) where
  abbrev less : List ℕ
  less = remove seats place

  abbrev left : List (List ℕ × Lines)
  left = if is_taken less slot then groups else without (slot ∷ []) groups

  -- the group of a slot that a place has is kept
  kept : (p s : ℕ) → slice_get less p ≡ Some s → in_slot left s ≡ in_slot groups s
  kept p s h = by (is_taken less slot) refl
    where
      by : (b : Bool) → is_taken less slot ≡ b → in_slot (if b then groups else without (slot ∷ []) groups) s ≡ in_slot groups s
      by true e = refl
      by false e = taken_elsewhere groups slot s (λ k. both_ways (is_taken less slot) e (has_place less p slot (h ∙ ap (λ x. Some x) k)))

  pub gone_seated : AreSeated less left
  gone_seated = record {
    held = λ p s h. let r = old.held (was_at place p) s (sym (after_gone seats place p) ∙ h) in (r.0, kept p s h ∙ r.1);
    taken = λ s g h. by s g (is_taken less slot) refl h (one_or_other s slot);
  }
    where
      others : (s : ℕ) (g : Lines) → in_slot groups s ≡ Some g → (s ≡ slot → ⊥) → is_taken less s ≡ true
      others s g h apart = let q = place_of_taken seats s (old.taken s g h) in let r = still_there seats place q.0 (away q.0 q.1) in has_place less r.0 s (r.1 ∙ q.1)
        where
          away : (q : ℕ) → slice_get seats q ≡ Some s → q ≡ place → ⊥
          away q k e = apart (some_same s slot (sym k ∙ subst (λ z. slice_get seats z ≡ Some slot) (sym e) at))

      by : (s : ℕ) (g : Lines) → (b : Bool) → is_taken less slot ≡ b → in_slot (if b then groups else without (slot ∷ []) groups) s ≡ Some g → (s ≡ slot) ⊎ (s ≡ slot → ⊥) → is_taken less s ≡ true
      by s g true e h (inl same) = subst (λ z. is_taken less z ≡ true) (sym same) e
      by s g true e h (inr apart) = others s g h apart
      by s g false e h (inl same) = absurd (none_is_some g (sym (taken_here groups slot) ∙ subst (λ z. in_slot (without (slot ∷ []) groups) z ≡ Some g) same h))
      by s g false e h (inr apart) = others s g (sym (taken_elsewhere groups slot s apart) ∙ h) apart

  abbrev full : Seating
  full = record { seats = seats; groups = groups }

  abbrev fewer : Seating
  fewer = record { seats = less; groups = left }

  pub gone_place : LacksPlace place full fewer
  gone_place = record {
    count = count_gone seats place slot at;
    others = λ p. by p (slice_get less p) refl;
  }
    where
      by : (p : ℕ) (o : Option ℕ) → slice_get less p ≡ o → group_at fewer p ≡ group_at full (was_at place p)
      by p None e =
          ap (λ x. option_and_then (λ s. in_slot left s) x) e
          ∙ ap (λ x. option_and_then (λ s. in_slot groups s) x) (sym e ∙ after_gone seats place p)
      by p (Some s) e = at_slot less left p s e ∙ kept p s e ∙ sym (at_slot seats groups (was_at place p) s (sym (after_gone seats place p) ∙ e))

module _ (s : Seating) (place slot : ℕ) (old : AreSeated s.seats s.groups) (at : slice_get s.seats place ≡ Some slot)
    (seats : List ℕ) (groups : List (List ℕ × Lines)) (less_seats : seats ≡ remove s.seats place)
    (less_groups : groups ≡ (if is_taken seats slot then s.groups else without (slot ∷ []) s.groups)) where
  kept_groups : groups ≡ (if is_taken (remove s.seats place) slot then s.groups else without (slot ∷ []) s.groups)
  kept_groups = less_groups ∙ ap (λ z. if is_taken z slot then s.groups else without (slot ∷ []) s.groups) less_seats

  pub goes_seated : AreSeated seats groups
  goes_seated = rw (less_seats, kept_groups) (gone_seated s.seats s.groups place slot old at)

  pub goes_away : LacksPlace place s (record { seats = seats; groups = groups })
  goes_away = rw (less_seats, kept_groups) (gone_place s.seats s.groups place slot old at)

-- what was right is right where it has moved
pub gone_right : (place : ℕ) (old new : Seating) → LacksPlace place old new → StaysRight old new
gone_right place old new lacks tie events was p g h = was (was_at place p) g (sym (lacks.others p) ∙ h)

-- ---- another slot

-- beyond the end of the one list is beyond that of the other
same_end : (xs ys : List ℕ) (p : ℕ) → length ys ≡ length xs → slice_get xs p ≡ None → slice_get ys p ≡ None
same_end xs [] p e h = refl
same_end [] (y ∷ ys) p e h = absurd (omega (arith, e))
same_end (x ∷ xs) (y ∷ ys) zero e h = absurd (cc)
same_end (x ∷ xs) (y ∷ ys) (suc p) e h = same_end xs ys p (omega (arith, e)) h

-- a place of the slot goes to the next one, which has a value
module _ {G : Type 0} (seats : List ℕ) (values after : List (List ℕ × G)) (slot next : ℕ) (h : G) (v : HasValue seats next values after) (there : in_slot after next ≡ Some h) where
  abbrev pub way : List (List ℕ × ℕ)
  way = put (next ∷ []) next (put (slot ∷ []) next [])

  leads : (s t : ℕ) → in_slot way s ≡ Some t → next ≡ t
  leads s t k = by (one_or_other s next) (one_or_other s slot)
    where
      by : (s ≡ next) ⊎ (s ≡ next → ⊥) → (s ≡ slot) ⊎ (s ≡ slot → ⊥) → next ≡ t
      by (inl e) o = some_same next t (sym (put_here (put (slot ∷ []) next []) next next) ∙ subst (λ z. in_slot way z ≡ Some t) e k)
      by (inr a) (inl e) = some_same next t (sym (put_here [] slot next) ∙ subst (λ z. in_slot (put (slot ∷ []) next []) z ≡ Some t) e (sym (put_elsewhere (put (slot ∷ []) next []) next s next a) ∙ k))
      by (inr a) (inr b) = absurd (none_is_some t (sym (put_elsewhere [] slot s next b) ∙ sym (put_elsewhere (put (slot ∷ []) next []) next s next a) ∙ k))

  known : (slot ≡ next) ⊎ (slot ≡ next → ⊥) → in_slot way slot ≡ Some next
  known (inl e) = ap (λ z. in_slot way z) e ∙ put_here (put (slot ∷ []) next []) next next
  known (inr a) = put_elsewhere (put (slot ∷ []) next []) next slot next a ∙ put_here [] slot next

  pub next_there : IsNext (λ _ x. x ≡ h) seats values after way slot next
  next_there = record {
    grows = v.grows;
    fresh = v.fresh;
    goes = λ s t g k l. (h, subst (λ z. in_slot after z ≡ Some h) (leads s t k) there, refl);
    stays = λ s t k. subst (λ z. in_slot way z ≡ Some z) (leads s t k) (put_here (put (slot ∷ []) next []) next next);
    known = known (one_or_other slot next);
  }

module _ (s : Seating) (place slot next : ℕ) (groups : List (List ℕ × Lines)) (h : Lines) (at : slice_get s.seats place ≡ Some slot) (old : AreSeated s.seats s.groups)
    (v : HasValue s.seats next s.groups groups) (there : in_slot groups next ≡ Some h)
    (seats : List ℕ) (final : List (List ℕ × Lines)) (sat : IsSat s.seats place slot next groups seats final) where
  pub sits_seated : AreSeated seats final
  sits_seated = (sat_moving (λ _ x. x ≡ h) s.seats seats s.groups groups final (way s.seats s.groups groups slot next h v there) place slot next at old (next_there s.seats s.groups groups slot next h v there) sat).seated

  moved : AreMoved (λ _ x. x ≡ h) (is_among (place ∷ [])) s.seats s.groups seats final
  moved = sat_moved (λ _ x. x ≡ h) s.seats seats s.groups groups final (way s.seats s.groups groups slot next h v there) place slot next at old (next_there s.seats s.groups groups slot next h v there) sat

  pub sits_placed : IsPlaced place h s (record { seats = seats; groups = final })
  sits_placed = record {
    count = moved.count;
    here = here;
    others = λ p a. others p a (slice_get s.seats p) refl;
  }
    where
      here : value_at seats final place ≡ Some h
      here =
          let g = old.held place slot at in
          let m = moved.now place g.0 (at_slot s.seats s.groups place slot at ∙ g.1) in
          m.1 ∙ ap (λ x. Some x) (m.2 (rw (eq-eqb place place refl) refl))

      others : (p : ℕ) → (p ≡ place → ⊥) → (o : Option ℕ) → slice_get s.seats p ≡ o → value_at seats final p ≡ value_at s.seats s.groups p
      others p a None e =
          ap (λ x. option_and_then (λ n. in_slot final n) x) (same_end s.seats seats p moved.count e)
          ∙ ap (λ x. option_and_then (λ n. in_slot s.groups n) x) (sym e)
      others p a (Some n) e =
          let g = old.held p n e in
          let was : value_at s.seats s.groups p ≡ Some g.0 = at_slot s.seats s.groups p n e ∙ g.1 in
          let m = moved.now p g.0 was in
          m.1 ∙ ap (λ x. Some x) (sym (m.3 (rw (ne_eqb place p (λ z. a (sym z))) refl))) ∙ sym was

-- a value in a slot that was free
pub put_value : {G : Type 0} (seats : List ℕ) (values after : List (List ℕ × G)) (free : ℕ) (g : G) → AreSeated seats values → is_taken seats free ≡ false
    → after ≡ put (free ∷ []) g values → HasValue seats free values after
put_value {G = G} seats values later free g old untaken is = rw is (record {
  here = (g, put_here values free g);
  grows = λ s x k. put_elsewhere values free s g (not_here s x k) ∙ k;
  fresh = λ s x k. by s x k (one_or_other s free);
})
  where
    not_here : (s : ℕ) (x : G) → in_slot values s ≡ Some x → s ≡ free → ⊥
    not_here s x k e = both_ways (is_taken seats free) untaken (subst (λ y. is_taken seats y ≡ true) e (old.taken s x k))

    by : (s : ℕ) (x : G) → in_slot (put (free ∷ []) g values) s ≡ Some x → (s ≡ free) ⊎ (s ≡ free → ⊥) → (s ≡ free) ⊎ (is_taken seats s ≡ true)
    by s x k (inl e) = inl e
    by s x k (inr a) = inr (old.taken s x (sym (put_elsewhere values free s g a) ∙ k))

pub put_there : {G : Type 0} (values after : List (List ℕ × G)) (free : ℕ) (g : G) → after ≡ put (free ∷ []) g values → in_slot after free ≡ Some g
put_there values later free g is = rw is (put_here values free g)

-- ---- what follows for its writes

has_of : (s : Seating) (p n : ℕ) (g : Lines) → group_at s p ≡ Some g → has_at s p n ≡ has_number g.writes n
has_of s p n g h = ap (λ o. option_map_or (λ (x : Lines). has_number x.writes n) o false) h

module _ (place : ℕ) (g : Lines) (old new : Seating) (placed : IsPlaced place g old new) where
  pub placed_rewritten : (numbers : List ℕ) → g.writes ≡ numbers → IsRewritten place numbers old new
  placed_rewritten numbers same = record {
    count = placed.count;
    writes = λ p n within. by p n (p == place) refl;
  }
    where
      by : (p n : ℕ) (b : Bool) → (p == place) ≡ b → has_at new p n ≡ (if b then has_number numbers n else has_at old p n)
      by p n true e =
          let k : p ≡ place = eqb-true p place e in
          ap (λ q. has_at new q n) k ∙ has_of new place n g placed.here ∙ ap (λ ns. has_number ns n) same
      by p n false e =
          let apart : p ≡ place → ⊥ = λ k. both_ways (p == place) e (eq-eqb p place k) in
          ap (λ o. option_map_or (λ (x : Lines). has_number x.writes n) o false) (placed.others p apart)

  pub placed_right : (tie : Tie) (events : List Written) → IsRightOf tie events g → AreRight tie events old → AreRight tie events new
  placed_right tie events right was p x h = by (one_or_other p place)
    where
      by : (p ≡ place) ⊎ (p ≡ place → ⊥) → IsRightOf tie events x
      by (inl e) = subst (λ z. IsRightOf tie events z) (some_same g x (sym placed.here ∙ subst (λ q. group_at new q ≡ Some x) e h)) right
      by (inr a) = was p x (sym (placed.others p a) ∙ h)

-- ---- each place has a group

pub group_there : (s : Seating) → AreSeated s.seats s.groups → (p : ℕ) → p < length s.seats → (g : Lines) × (group_at s p ≡ Some g)
group_there s seated p h =
    let slot = place_there s.seats p h in
    let g = seated.held p slot.0 slot.1 in
    (g.0, at_slot s.seats s.groups p slot.0 slot.1 ∙ g.1)
