use Rattle.std.proofs.Common.{◌++◌}
use Rattle.std.specs.Prelude.{codes}
use Rattle.adr_value.specs.Payload.{name_of}
use Rattle.adr_model.specs.Queries.{type_text}
use Rattle.adr_calendar.proofs.Walked.{passed_on}
use Rattle.adr_calendar.proofs.answers.put_type_lines.Goals as goal

pub loop-payload_type-preserved : goal.loop-payload_type-preserved
loop-payload_type-preserved c =
    passed_on (λ kind. type_text (name_of kind) ++ codes "\n") _ _ _ c.args.types.now c.loop-payload_type.payload_type-index c.payload_type-item.result
    c.loop-payload_type-test.true c.payload_type-item.is c.loop-payload_type.invariant c.in_ok-put_type_line.ensures.ok
