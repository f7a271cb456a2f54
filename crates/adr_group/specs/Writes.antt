-- The numbers of writes, after an event has come or gone.
use Rattle.std.specs.Prelude.{◌==◌, not, ℕ, Bool, true, false, List, Option, if◌then◌else◌}
use Rattle.std.specs.Option.{option_map_or}
use Rattle.adr_lines.specs.Right.{has_number}

-- the number is there, and is this one
abbrev pub is_number : Option ℕ → ℕ → Bool
is_number number n = option_map_or (λ x. x == n) number false

-- the number is not the one that goes
abbrev pub stays : Option ℕ → ℕ → Bool
stays gone n = not (is_number gone n)

-- the number that comes is there, the one that goes is not, and any other is there if it was
abbrev pub changed_number : Option ℕ → Option ℕ → List ℕ → ℕ → Bool
changed_number gone come numbers n = if is_number come n then true else if is_number gone n then false else has_number numbers n
