use Rattle.std.proofs.Common.{◌∙◌, sym, ap}
use Rattle.std.specs.Prelude.{Err}
use Rattle.adr_refusal.specs.declared.refusal.Refusal.TheVariants.{BadMoment}
use Rattle.adr_time.specs.Reading.{moment_named}
use Rattle.adr_resolver.proofs.Words.{is_text, no_text}
use Rattle.adr_resolver.proofs.line.moment_word.Goals as goal

pub returns-in-Ok : goal.returns-in-Ok
returns-in-Ok c =
    c.read_moment.ensures ∙ ap moment_named c.in-Ok.ensures.cases.0 ∙ sym (is_text c.args.word.now (moment_named c.args.word.now) (Err BadMoment) c.in-Ok.ensures.cases.1)

pub returns-in-Err : goal.returns-in-Err
returns-in-Err c = sym (no_text c.args.word.now (moment_named c.args.word.now) (Err BadMoment) c.in-Err.ensures.cases.0)
