use Rattle.std.proofs.Common.{refl}
use Rattle.std.proofs.lemmas.Bool.{false≢true}
use Rattle.adr_read.proofs.SkipLemmas.{number_there, no_number}
use Rattle.adr_read.proofs.skip.check_number.Goals as goal

pub returns-in-Ok-clause-ok : goal.returns-in-Ok-clause-ok
returns-in-Ok-clause-ok c = number_there c.args.text.now _ c.requires c.in-Ok.ensures.ok

pub returns-clause-bad : goal.returns-clause-bad
returns-clause-bad c _ = (refl, no_number c.args.text.now c.requires (c.in-Err.ensures.err (λ m. false≢true (c.if-is_memory.ensures.1 m))))
