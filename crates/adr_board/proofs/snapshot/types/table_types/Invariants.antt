use Rattle.std.proofs.Common.{◌≡◌, Bool, take}
use Rattle.std.specs.List.{flat_map}
use Rattle.adr_value.specs.Payload.{table}
use Rattle.adr_value.specs.declared.payload.PayloadType.{PayloadType}
use Rattle.adr_board.specs.Types.{type_if, IsTypeTest}
use Rattle.adr_board.proofs.snapshot.types.table_types.Given as goal

-- the table's types so far stand there
abbrev pub invariant-loop-code : goal.invariant-loop-code
invariant-loop-code l =
    (test : PayloadType → Bool) → IsTypeTest l.group.lines test
    → l.types.items ≡ flat_map (λ r. type_if test r.case) (take l.code table)
