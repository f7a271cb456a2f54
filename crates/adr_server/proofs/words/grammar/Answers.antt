use Rattle.std.proofs.Common.{rules, ap, ap₂, ◌∙◌, ◌≡◌, codes, [], ◌∷◌}
use Rattle.std.proofs.lemmas.Result.{IfOk-weaker}
use Rattle.clap.specs.Walk.{texts}
use Rattle.clap.specs.Words.{with_subcommand}
use Rattle.adr_server.specs.Grammar.{command_grammar}
use Rattle.adr_server.proofs.Reading.{names_are_somewhere}
use Rattle.adr_server.proofs.words.grammar.Goals as goal

pub returns : goal.returns
returns c =
    let are : texts c.as_slice-ties.result.now ≡ codes "newest" ∷ codes "latest-start" ∷ [] = search rules in
    let somewhere = names_are_somewhere c.as_slice-ties.result are in
    let places = somewhere.0 in
    let run = c.in_ok-adr.ensures ∙ ap₂ with_subcommand c.in_ok-bare.ensures (ap (λ ties. (command_grammar (codes "run") (codes "workers") ties).top) somewhere.1) in
    IfOk-weaker c.with_command-2.result _ _ (λ adr adds. (places, adds ∙ ap₂ with_subcommand run (ap (λ ties. (command_grammar (codes "fan") (codes "readers") ties).top) somewhere.1))) c.with_command-2.ensures
