-- Places that are added one by one, with the slots that they have.
use Rattle.std.proofs.Common.{◌≡◌, ℕ, suc, ◌<◌, ◌⊎◌, inl, inr, true, false, List, [], ◌∷◌, ◌++◌, length, slice_get, Option, Some, None, refl, ap, sym, ◌∙◌, arith}
use Rattle.std.specs.Borrow.{Bor}
use Rattle.std.specs.Option.{option_and_then}
use Rattle.std.specs.Slice.{IsItemAt}
use Rattle.std.proofs.lemmas.Option.{slice_get-get_or}
use Rattle.adr_shared.specs.Map.{put}
use Rattle.adr_group.specs.Group.{Lines}
use Rattle.adr_schedule.specs.Seating.{group_at}
use Rattle.adr_schedule.specs.Slots.{in_slot, is_taken, value_at, AreSeated}
use Rattle.adr_schedule.proofs.Numbered.{one_or_other, put_here, put_elsewhere, has_place, place_of_taken}
use Rattle.adr_schedule.proofs.Places.{last_or_before, added_seated, before_last}
use Rattle.adr_schedule.proofs.Seated.{some_same, at_slot}

-- a place more with a slot that one has
pub taken_seated : (seats : List ℕ) (values : List (List ℕ × Lines)) (slot : ℕ) → AreSeated seats values → is_taken seats slot ≡ true
    → AreSeated (seats ++ slot ∷ []) values
taken_seated seats values slot old taken = record {
  held = λ p s k. held p s (last_or_before seats slot p s k);
  taken = λ s g k. let q = place_of_taken seats s (old.taken s g k) in has_place (seats ++ slot ∷ []) q.0 s (before_last seats slot q.0 s q.1);
}
  where
    held : (p s : ℕ) → (slice_get seats p ≡ Some s) ⊎ ((p ≡ length seats) × (slot ≡ s)) → (g : Lines) × (in_slot values s ≡ Some g)
    held p s (inl k) = old.held p s k
    held p s (inr e) = let q = place_of_taken seats slot taken in old.held q.0 s (q.1 ∙ ap (λ x. Some x) e.1)

-- what is in a slot after a group was put into one
pub put_groups : (values : List (List ℕ × Lines)) (slot : ℕ) (group : Lines) (s : ℕ) (g : Lines)
    → in_slot (put (slot ∷ []) group values) s ≡ Some g → (in_slot values s ≡ Some g) ⊎ ((s ≡ slot) × (g ≡ group))
put_groups values slot group s g h = by (one_or_other s slot)
  where
    by : (s ≡ slot) ⊎ (s ≡ slot → ⊥) → (in_slot values s ≡ Some g) ⊎ ((s ≡ slot) × (g ≡ group))
    by (inl e) = inr (e, some_same g group (sym h ∙ ap (λ x. in_slot (put (slot ∷ []) group values) x) e ∙ put_here values slot group))
    by (inr a) = inl (sym (put_elsewhere values slot s group a) ∙ h)

-- each place has the group that stands in its slot
pub gathered_groups : (seats : List ℕ) (values : List (List ℕ × Lines)) (groups : List Lines) → AreSeated seats values
    → ((s : ℕ) (g : Lines) → in_slot values s ≡ Some g → slice_get groups s ≡ Some g)
    → (place : ℕ) → group_at (record { seats = seats; groups = values }) place ≡ option_and_then (λ slot. slice_get groups slot) (slice_get seats place)
gathered_groups seats values groups old same place = by (slice_get seats place) refl
  where
    by : (o : Option ℕ) → slice_get seats place ≡ o → value_at seats values place ≡ option_and_then (λ slot. slice_get groups slot) o
    by None e = ap (λ o. option_and_then (λ slot. in_slot values slot) o) e
    by (Some s) e = let g = old.held place s e in at_slot seats values place s e ∙ g.1 ∙ sym (same s g.0 g.1)

pub same_seated : (seats more : List ℕ) (values same : List (List ℕ × Lines)) (slot : ℕ) → AreSeated seats values → is_taken seats slot ≡ true
    → more ≡ seats ++ slot ∷ [] → same ≡ values → AreSeated more same
same_seated seats more values same slot old taken e f = rw (e, f) (taken_seated seats values slot old taken)

pub more_seated : (seats more : List ℕ) (values after : List (List ℕ × Lines)) (slot : ℕ) (group : Lines) → AreSeated seats values → is_taken seats slot ≡ false
    → more ≡ seats ++ slot ∷ [] → after ≡ put (slot ∷ []) group values → AreSeated more after
more_seated seats more values after slot group old free e f = rw (e, f) (added_seated seats values slot group old free)

pub more_groups : (values after : List (List ℕ × Lines)) (slot : ℕ) (copy group : Lines) → after ≡ put (slot ∷ []) copy values → copy ≡ group
    → (s : ℕ) (g : Lines) → in_slot after s ≡ Some g → (in_slot values s ≡ Some g) ⊎ ((s ≡ slot) × (g ≡ group))
more_groups values after slot copy group e f s g h =
    put_groups values slot group s g (sym (ap (λ vs. in_slot vs s) (e ∙ ap (λ x. put (slot ∷ []) x values) f)) ∙ h)

-- one place of those that are left is seated
pub turn_seats : (seats more rest after slots : List ℕ) (slot : ℕ) → seats ++ rest ≡ slots → rest ≡ slot ∷ after → more ≡ seats ++ slot ∷ [] → more ++ after ≡ slots
turn_seats seats more rest after slots slot whole first e = rw e (append_one seats slot after ∙ ap (λ xs. seats ++ xs) (sym first) ∙ whole)
  where
    append_one : (xs : List ℕ) (x : ℕ) (ys : List ℕ) → (xs ++ x ∷ []) ++ ys ≡ xs ++ x ∷ ys
    append_one [] x ys = refl
    append_one (z ∷ zs) x ys = ap (λ l. z ∷ l) (append_one zs x ys)

pub turn_groups : (values after : List (List ℕ × Lines)) (groups : List Lines) (slot : ℕ) (group : Lines) → slice_get groups slot ≡ Some group
    → ((s : ℕ) (g : Lines) → in_slot values s ≡ Some g → slice_get groups s ≡ Some g)
    → ((s : ℕ) (g : Lines) → in_slot after s ≡ Some g → (in_slot values s ≡ Some g) ⊎ ((s ≡ slot) × (g ≡ group)))
    → (s : ℕ) (g : Lines) → in_slot after s ≡ Some g → slice_get groups s ≡ Some g
turn_groups values after groups slot group here old new s g h = by (new s g h)
  where
    by : (in_slot values s ≡ Some g) ⊎ ((s ≡ slot) × (g ≡ group)) → slice_get groups s ≡ Some g
    by (inl k) = old s g k
    by (inr e) = ap (λ n. slice_get groups n) e.0 ∙ here ∙ ap (λ x. Some x) (sym e.1)

pub turn_within : (rest after : List ℕ) (slot count : ℕ) → rest ≡ slot ∷ after → ((p s : ℕ) → slice_get rest p ≡ Some s → s < count) → (p s : ℕ) → slice_get after p ≡ Some s → s < count
turn_within rest after slot count e old p s h = old (suc p) s (ap (λ xs. slice_get xs (suc p)) e ∙ h)

pub first_within : (rest after : List ℕ) (slot count : ℕ) → rest ≡ slot ∷ after → ((p s : ℕ) → slice_get rest p ≡ Some s → s < count) → slot < count
first_within rest after slot count e old = old 0 slot (ap (λ xs. slice_get xs 0) e)

pub none_in : (s : ℕ) (g : Lines) (values : List (List ℕ × Lines)) → values ≡ [] → in_slot values s ≡ Some g → ⊥
none_in s g values e h = by (sym (ap (λ vs. in_slot vs s) e) ∙ h)
  where
    by : None ≡ Some g → ⊥
    by k = absurd (cc)

pub none_seated : (seats : List ℕ) (values : List (List ℕ × Lines)) → seats ≡ [] → values ≡ [] → AreSeated seats values
none_seated seats values e f = record {
  held = λ p s h. absurd (nothing p s (sym (ap (λ xs. slice_get xs p) e) ∙ h));
  taken = λ s g h. absurd (none_in s g values f h);
}
  where
    none_at : List ℕ
    none_at = []

    nothing : (p s : ℕ) → slice_get none_at p ≡ Some s → ⊥
    nothing p s k = absurd (cc)

-- what is looked up at a place that is there
pub item_there : (groups : List Lines) (i : ℕ) (x : Bor Lines) → IsItemAt groups i (Some x) → slice_get groups i ≡ Some x.now
item_there groups i x h = slice_get-get_or groups i x.now h.3.0 ∙ ap (λ (g : Lines). Some g) (sym (h.3.1 x.now))

pub item_within : (groups : List Lines) (i : ℕ) (r : Option (Bor Lines)) → IsItemAt groups i r → r ≡ None → i < length groups → ⊥
item_within groups i None h e within = let past = h.3 in omega (arith, past, within)
item_within groups i (Some x) h e within = absurd (cc)

pub fewer_left : (rest more : List ℕ) (slot : ℕ) → rest ≡ slot ∷ more → length more < length rest
fewer_left rest more slot e = let n : length rest ≡ suc (length more) = ap (λ xs. length xs) e in omega (arith, n)
