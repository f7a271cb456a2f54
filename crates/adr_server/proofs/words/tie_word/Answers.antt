use Rattle.std.proofs.Common.{◌∙◌, codes}
use Rattle.clap.specs.Words.{found_of}
use Rattle.clap.proofs.WalkLemmas.{first_value-rows}
use Rattle.adr_server.proofs.Reading.{tie_in-rows}
use Rattle.adr_server.proofs.words.tie_word.Goals as goal

pub returns : goal.returns
returns c = c.get_str.ensures ∙ first_value-rows (found_of c.in_ok-entered.entered.1.now) (codes "tie") ∙ tie_in-rows _ _ c.in_ok-entered.ensures.rows
