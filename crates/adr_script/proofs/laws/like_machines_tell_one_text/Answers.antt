use Rattle.std.proofs.Common.{IsTrue}
use Rattle.adr_script.proofs.TextLemmas.{alike_text}
use Rattle.adr_script.proofs.laws.like_machines_tell_one_text.Goals as goal

pub returns : goal.returns
returns g c = λ reply next other onward alike step s t h marks lines.
    alike_text reply next other onward (λ s t. IsTrue (alike s t)) step marks s t lines h
