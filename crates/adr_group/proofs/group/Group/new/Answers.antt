use Rattle.std.proofs.Common.{◌∙◌}
use Rattle.adr_group.proofs.Rights.{none_right}
use Rattle.adr_group.proofs.group.Group.new.Goals as goal

pub returns-clause-right : goal.returns-clause-right
returns-clause-right c tie events = none_right tie events c.in_ok-new.field-0 c.new-3.result (c.in_ok-new.ensures ∙ c.new.ensures) c.new-3.ensures
