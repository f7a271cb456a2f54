-- What a schedule shows after its groups moved.
use Rattle.std.proofs.Common.{◌≡◌, ℕ, zero, suc, ◌<◌, Bool, true, false, if◌then◌else◌, List, [], ◌∷◌, length, slice_get, Some, refl, ap, sym, subst, ◌∙◌, arith}
use Rattle.std.specs.Option.{option_map_or}
use Rattle.adr_model.specs.declared.entry.Tie.{Tie}
use Rattle.adr_model.specs.declared.written.Written.{Written}
use Rattle.adr_lines.specs.Right.{has_number}
use Rattle.adr_lines.specs.declared.indexes.Indexes.{Indexes}
use Rattle.adr_lines.specs.Exchange.{IsIndexOf}
use Rattle.adr_group.specs.Group.{Lines, IsRightOf}
use Rattle.adr_schedule.specs.declared.change.Change.{Change}
use Rattle.adr_schedule.specs.Moves.{is_among, AreMoved}
use Rattle.adr_schedule.specs.Seating.{group_at, has_at, shifted, Seating, AreRight, IsShifted}
use Rattle.adr_schedule.specs.Shift.{number_in, AreSidesOf, Becomes}
use Rattle.adr_schedule.specs.Slots.{AreSeated}
use Rattle.adr_schedule.proofs.Seated.{at_slot, slot_of, some_same}

pub none_left : {X : Type 0} (xs : List X) → length xs ≡ 0 → xs ≡ []
none_left [] h = refl
none_left (x ∷ xs) h = absurd (cc)

-- a place that is there has a slot
pub place_there : {X : Type 0} (xs : List X) (p : ℕ) → p < length xs → (x : X) × (slice_get xs p ≡ Some x)
place_there [] p h = absurd (omega arith)
place_there (y ∷ ys) zero h = (y, refl)
place_there (y ∷ ys) (suc p) h = place_there ys p (omega arith)

pub place_inside : {X : Type 0} (xs : List X) (p : ℕ) (x : X) → slice_get xs p ≡ Some x → p < length xs
place_inside [] p x h = absurd (cc)
place_inside (y ∷ ys) zero x h = omega arith
place_inside (y ∷ ys) (suc p) x h = let r : p < length ys = place_inside ys p x h in omega arith

-- and so a group
pub group_there : (s : Seating) → AreSeated s.seats s.groups → (p : ℕ) → p < length s.seats → (g : Lines) × (group_at s p ≡ Some g)
group_there s seated p h =
    let slot = place_there s.seats p h in
    let g = seated.held p slot.0 slot.1 in
    (g.0, at_slot s.seats s.groups p slot.0 slot.1 ∙ g.1)

-- who has a group is there
pub group_inside : (s : Seating) (p : ℕ) (g : Lines) → group_at s p ≡ Some g → p < length s.seats
group_inside s p g h = let slot = slot_of s.seats s.groups p g h in place_inside s.seats p slot.0 slot.1

-- the writes of a group are those of its place
pub has_of : (s : Seating) (p : ℕ) (g : Lines) (n : ℕ) → group_at s p ≡ Some g → has_at s p n ≡ has_number g.writes n
has_of s p g n h = ap (λ o. option_map_or (λ x. has_number x.writes n) o false) h

module _ (change : Change) (indexes : Indexes) (places : List ℕ) (old new : Seating) (seated : AreSeated old.seats old.groups)
    (moved : AreMoved (Becomes change indexes) (is_among places) old.seats old.groups new.seats new.groups) where
  pub is_shifted : IsShifted (number_in change.gone) (number_in change.come) places old new
  is_shifted = record {
    count = moved.count;
    writes = λ p n h. let g = group_there old seated p h in let m = moved.now p g.0 g.1 in
        has_of new p m.0 n m.1 ∙ by p n g.0 m.0 m.2 m.3 (is_among places p) refl ∙ ap (λ b. if is_among places p then shifted (number_in change.gone) (number_in change.come) b n else b) (sym (has_of old p g.0 n g.1));
  }
    where
      by : (p n : ℕ) (g h : Lines) → (is_among places p ≡ true → Becomes change indexes g h) → (is_among places p ≡ false → g ≡ h)
          → (b : Bool) → is_among places p ≡ b
          → has_number h.writes n ≡ (if is_among places p then shifted (number_in change.gone) (number_in change.come) (has_number g.writes n) n else has_number g.writes n)
      by p n g h moves stays true e = (moves e).writes n ∙ sym (rw e refl)
      by p n g h moves stays false e = ap (λ x. has_number x.writes n) (sym (stays e)) ∙ sym (rw e refl)

  pub right_shifted : (tie : Tie) (events : List Written) → IsIndexOf tie events indexes → AreSidesOf tie events change → AreRight tie events old → AreRight tie events new
  right_shifted tie events index sides right p h at =
      let g = group_there old seated p (subst (λ n. p < n) moved.count (group_inside new p h at)) in
      let m = moved.now p g.0 g.1 in
      let same : m.0 ≡ h = some_same m.0 h (sym m.1 ∙ at) in
      subst (λ x. IsRightOf tie events x) same (by g.0 m.0 m.2 m.3 (right p g.0 g.1) (is_among places p) refl)
    where
      by : (g x : Lines) → (is_among places p ≡ true → Becomes change indexes g x) → (is_among places p ≡ false → g ≡ x) → IsRightOf tie events g
          → (b : Bool) → is_among places p ≡ b → IsRightOf tie events x
      by g x moves stays r true e = (moves e).right tie events index sides r
      by g x moves stays r false e = subst (λ y. IsRightOf tie events y) (stays e) r
