use Rattle.std.proofs.Common.{arith}
use Rattle.adr_shared.proofs.tree.balance.Goals as goal

pub fork-requires : goal.fork-requires
fork-requires g c = (omega arith, omega arith)
