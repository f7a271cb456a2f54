use Rattle.adr_touches.specs.Edited.{rows_on}
use Rattle.adr_touches.proofs.Resources.{by_resource, joined}
use Rattle.adr_touches.proofs.edited.EditTouches.of.Goals as goal

pub returns-clause-ok : goal.returns-clause-ok
returns-clause-ok c =
    joined (rows_on c.args.old.now.objects c.args.new.now.objects c.in_ok-rows.field-0.rows c.in_ok-rows.field-0.events.items) c.in_ok-rows.field-0.resources.items _
    c.in_ok-rows.ensures.ok

pub returns-clause-resources : goal.returns-clause-resources
returns-clause-resources c =
    by_resource c.args.old.now.objects c.args.new.now.objects c.in_ok-rows.field-0.rows c.in_ok-rows.field-0.events.items c.in_ok-rows.field-0.resources.items
