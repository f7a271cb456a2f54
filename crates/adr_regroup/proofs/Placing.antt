-- Places of a seating, and their groups.
use Rattle.std.proofs.Common.{◌≡◌, ℕ, zero, suc, ◌<◌, true, false, List, [], ◌∷◌, length, slice_get, Option, Some, None, refl, ap, sym, arith}
use Rattle.std.proofs.lemmas.Option.{slice_get_within}
use Rattle.std.specs.Option.{option_and_then, option_map_or}
use Rattle.adr_lines.specs.Right.{has_number}
use Rattle.adr_group.specs.Group.{Lines}
use Rattle.adr_schedule.specs.Seating.{group_at, has_at, Seating}
use Rattle.adr_schedule.specs.Slots.{in_slot}

pub there : {X : Type 0} (xs : List X) (p : ℕ) → p < length xs → (x : X) × (slice_get xs p ≡ Some x)
there [] p h = absurd (omega arith)
there (y ∷ ys) zero h = (y, refl)
there (y ∷ ys) (suc p) h = there ys p (omega arith)

-- who has a write has a group, and so a place
pub has_group : (s : Seating) (p n : ℕ) → has_at s p n ≡ true → (g : Lines) × (group_at s p ≡ Some g)
has_group s p n h = by (group_at s p) refl h
  where
    by : (o : Option Lines) → group_at s p ≡ o → option_map_or (λ g. has_number g.writes n) o false ≡ true → (g : Lines) × (group_at s p ≡ Some g)
    by None e k = absurd (cc)
    by (Some g) e k = (g, e)

pub has_place : (s : Seating) (p : ℕ) (g : Lines) → group_at s p ≡ Some g → p < length s.seats
has_place s p g h = by (slice_get s.seats p) refl h
  where
    by : (o : Option ℕ) → slice_get s.seats p ≡ o → option_and_then (λ slot. in_slot s.groups slot) o ≡ Some g → p < length s.seats
    by None e k = absurd (cc)
    by (Some slot) e k = slice_get_within s.seats p slot e

-- the writes of a place's group
pub number_at : (s : Seating) (p : ℕ) (g : Lines) (n : ℕ) → group_at s p ≡ Some g → has_number g.writes n ≡ has_at s p n
number_at s p g n h = sym (ap (λ o. option_map_or (λ x. has_number x.writes n) o false) h)
