use Rattle.std.proofs.Common.{sym, ◌∙◌}
use Rattle.adr_schedule.proofs.Filled.{more_seated, more_groups, same_seated}
use Rattle.adr_schedule.proofs.gathered.seated_last.Goals as goal

pub returns-then-taken-clause-seated : goal.returns-then-taken-clause-seated
returns-then-taken-clause-seated c =
    same_seated c.args.seats.now c.push.new.self c.args.kept.now c.in_ok-same.same c.args.slot c.requires.seated
    (sym c.is_taken-taken.ensures ∙ c.if-taken.true) c.in_ok-push.ensures.ok c.in_ok-same.ensures

pub returns-clause-seated : goal.returns-clause-seated
returns-clause-seated c =
    more_seated c.args.seats.now c.push.new.self c.args.kept.now c.in_ok-more.more c.args.slot c.in_ok-group.group c.requires.seated
    (sym c.is_taken-taken.ensures ∙ c.if-taken.false) c.in_ok-push.ensures.ok c.in_ok-more.ensures

pub returns-clause-groups : goal.returns-clause-groups
returns-clause-groups c =
    more_groups c.args.kept.now c.in_ok-more.more c.args.slot c.in_ok-group.group c.args.group.now c.in_ok-more.ensures c.in_ok-group.ensures
