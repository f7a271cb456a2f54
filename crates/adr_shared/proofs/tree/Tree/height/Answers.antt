use Rattle.std.proofs.Common.{subst}
use Rattle.adr_shared.specs.Node.{IsRoot}
use Rattle.adr_shared.proofs.Heights.{low_enough}
use Rattle.adr_shared.proofs.tree.Tree.height.Goals as goal

pub returns-in-Fork-clause-limit : goal.returns-in-Fork-clause-limit
returns-in-Fork-clause-limit g c =
    let root = subst IsRoot c.in-Fork.is c.self.invariant in
    low_enough _ _ root.3 root.5
