use Rattle.std.proofs.Common.{◌∙◌}
use Rattle.adr_server.proofs.Reading.{entered-name, entered-pairs}
use Rattle.clap.specs.Simple.{subcommand_rows_of}
use Rattle.clap.specs.Words.{found_of, rows_of}
use Rattle.adr_server.proofs.words.entered.Goals as goal

pub returns : goal.returns
returns c = entered-pairs (λ own. own.0.now) (λ own. rows_of (found_of own.1.now)) c.subcommand.result (subcommand_rows_of c.args.matches.now) (c.subcommand.ensures.name ∙ entered-name c.args.matches.now) c.subcommand.ensures.rows
