use Rattle.std.proofs.Common.{◌≡◌, Some}
use Rattle.adr_read.specs.Looking.{text_of}
use Rattle.adr_read.proofs.StartLemmas.{start_gives}
use Rattle.adr_read.proofs.period.MomentRead.read.Goals as goal

pub returns-in-Some : goal.returns-in-Some
returns-in-Some c =
    let told = c.in_ok-text.ensures in
    let is : Some c.in-Some.text.now ≡ text_of told.0 = rw c.in-Some.is at told.2 in
    (told.0, told.1, start_gives told.0 c.args.context.now.moment c.in-Some.text.now c.read_start.result is c.read_start.ensures.value)
