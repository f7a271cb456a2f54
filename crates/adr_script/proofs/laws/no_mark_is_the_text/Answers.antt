use Rattle.adr_script.proofs.TextLemmas.{text_but-nil}
use Rattle.adr_script.proofs.laws.no_mark_is_the_text.Goals as goal

pub returns : goal.returns
returns g c = λ reply next s lines. text_but-nil reply next s lines
