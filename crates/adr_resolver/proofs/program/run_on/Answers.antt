use Rattle.adr_resolver.proofs.Journals.{script_text}
use Rattle.adr_resolver.proofs.Outcomes.{not_begun, nothing_met, told_otherwise}
use Rattle.adr_resolver.specs.Kept.{kept_reply, kept_next}
use Rattle.adr_resolver.specs.Text.{script_reply, script_next, script_start}
use Rattle.adr_resolver.proofs.program.run_on.Goals as goal

pub returns-in_default-clause-run : goal.returns-in_default-clause-run
returns-in_default-clause-run g c = not_begun script_reply script_next (script_start c.args.tie) _ _

pub returns-in_default-clause-cause : goal.returns-in_default-clause-cause
returns-in_default-clause-cause g c = nothing_met c.args.logs.now c.requires.logs

pub returns-clause-run : goal.returns-clause-run
returns-clause-run g c =
    told_otherwise kept_reply kept_next _ script_reply script_next (script_start c.args.tie) _ _ _ _ c.run_by.result
    (λ lines out h. script_text c.args.tie _ lines out c.in-Ok.ensures h)
    c.run_by.ensures.run
