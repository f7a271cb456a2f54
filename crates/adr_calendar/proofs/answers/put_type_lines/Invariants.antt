use Rattle.std.proofs.Common.{◌≡◌, ◌++◌, take}
use Rattle.std.specs.Prelude.{codes}
use Rattle.std.specs.List.{flat_map}
use Rattle.adr_value.specs.Payload.{name_of}
use Rattle.adr_model.specs.Queries.{type_text}
use Rattle.adr_calendar.proofs.answers.put_type_lines.Given as goal

-- the lines of the types so far stand there
abbrev pub invariant-loop-payload_type : goal.invariant-loop-payload_type
invariant-loop-payload_type l = l.out.items ≡ l.initial.out.items ++ flat_map (λ kind. type_text (name_of kind) ++ codes "\n") (take l.payload_type-index l.types)
