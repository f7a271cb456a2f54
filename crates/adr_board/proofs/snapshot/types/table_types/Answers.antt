use Rattle.std.proofs.Common.{[], ◌∙◌}
use Rattle.adr_value.specs.Payload.{Row, table}
use Rattle.adr_calendar.proofs.Tabled.{table_walked_on}
use Rattle.adr_calendar.proofs.Walked.{whole_walk}
use Rattle.adr_board.specs.Types.{type_if}
use Rattle.adr_board.proofs.snapshot.types.table_types.Goals as goal

pub loop-code-preserved : goal.loop-code-preserved
loop-code-preserved c test is =
    table_walked_on (type_if test) [] _ _ c.loop-code.code (c.loop-code.invariant test is) (c.in_ok-add_table_type.ensures.ok test is)

pub returns-clause-ok : goal.returns-clause-ok
returns-clause-ok c test is =
    c.loop-code.invariant test is ∙ whole_walk (λ (r : Row). type_if test r.case) table c.loop-code.code c.loop-code-test.false
