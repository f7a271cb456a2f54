use Rattle.std.proofs.Common.{rules, length}
use Rattle.adr_fan.proofs.Opened.{opens}
use Rattle.adr_fan.proofs.fanning.open.Goals as goal

pub returns-in-Ok : goal.returns-in-Ok
returns-in-Ok g c =
    let opened = c.in-Ok.ensures in
    (opens c.in-Ok.editor _ c.args.tie opened.tie opened.base opened.objects opened.pending opened.published (search rules), search rules)
