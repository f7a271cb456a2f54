use Rattle.std.proofs.Common.{◌≡◌, ◌++◌, Bool, take}
use Rattle.std.specs.List.{flat_map}
use Rattle.adr_value.specs.declared.payload.PayloadType.{PayloadType}
use Rattle.adr_board.specs.Types.{private_if, IsTypeTest}
use Rattle.adr_board.proofs.snapshot.types.add_private_types.Given as goal

-- the private types of the lines so far stand there
abbrev pub invariant-loop-place : goal.invariant-loop-place
invariant-loop-place l =
    (test : PayloadType → Bool) → IsTypeTest l.group.lines test
    → l.types.items ≡ l.initial.types.items ++ flat_map (λ k. private_if test k.0) (take l.place l.group.lines)
