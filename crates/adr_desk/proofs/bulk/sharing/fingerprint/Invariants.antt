use Rattle.std.proofs.Common.{length}
use Rattle.std.specs.Prelude.{⊤}
use Rattle.adr_desk.proofs.bulk.sharing.fingerprint.Given as goal

abbrev pub invariant-rest : goal.invariant-rest
invariant-rest l = ⊤

abbrev pub decreases-rest : goal.decreases-rest
decreases-rest l = length l.rest
