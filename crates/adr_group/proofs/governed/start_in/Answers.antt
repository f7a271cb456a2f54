use Rattle.std.proofs.Common.{sym, ◌∙◌}
use Rattle.adr_group.proofs.Owned.{none_starts}
use Rattle.adr_group.proofs.governed.start_in.Goals as goal

pub returns-in-Some : goal.returns-in-Some
returns-in-Some c h t covered = none_starts c.args.spans.now c.in-Some.span.now c.args.window.now t c.in-Some.ensures.value c.requires (sym c.is_before.ensures.test ∙ h) covered
