use Rattle.std.proofs.Common.{◌≡◌, ◌++◌, take}
use Rattle.std.specs.List.{flat_map}
use Rattle.adr_value.specs.declared.payload.PayloadType.TheVariants.{Private}
use Rattle.adr_plain.specs.Scan.{type_if_governed}
use Rattle.adr_plain.proofs.types.add_private_types.Given as goal

-- the types of the names so far stand there
abbrev pub invariant-loop-name : goal.invariant-loop-name
invariant-loop-name l = l.types.items ≡ l.initial.types.items ++ flat_map (λ name. type_if_governed l.tie l.book.objects l.id (Private name)) (take l.name-index l.names)
