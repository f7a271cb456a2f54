use Rattle.std.proofs.Common.{ap, ◌∙◌}
use Rattle.std.proofs.lemmas.Result.{IfOk-weaker}
use Rattle.clap.specs.Words.{app_of, with_subcommand}
use Rattle.adr_server.proofs.words.with_command.Goals as goal

pub returns : goal.returns
returns c =
    IfOk-weaker c.subcommand.result _ _ (λ more adds. adds.shape c.in_ok-own.ensures.local ∙ ap (λ app. with_subcommand (app_of c.args.adr) app.top) c.in_ok-own.ensures.grammar) c.subcommand.ensures
