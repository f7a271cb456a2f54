use Rattle.std.proofs.Common.{◌≡◌, ◌++◌, take}
use Rattle.std.specs.List.{flat_map}
use Rattle.adr_value.specs.Payload.{table}
use Rattle.adr_plain.specs.Scan.{type_if_governed}
use Rattle.adr_plain.proofs.types.add_table_types.Given as goal

-- the table's types so far stand there
abbrev pub invariant-loop-code : goal.invariant-loop-code
invariant-loop-code l = l.types.items ≡ l.initial.types.items ++ flat_map (λ r. type_if_governed l.tie l.book.objects l.id r.case) (take l.code table)
