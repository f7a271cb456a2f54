use Rattle.adr_calendar.proofs.Tabled.{table_walked_on}
use Rattle.adr_plain.specs.Scan.{type_if_governed}
use Rattle.adr_plain.proofs.types.add_table_types.Goals as goal

pub loop-code-preserved : goal.loop-code-preserved
loop-code-preserved c =
    table_walked_on (type_if_governed c.args.tie c.args.book.now.objects c.args.id.now) _ _ _ c.loop-code.code
    c.loop-code.invariant c.in_ok-add_table_type.ensures.ok
