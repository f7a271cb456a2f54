use Rattle.std.proofs.Common.{◌≡◌, length}
use Rattle.adr_shared.specs.Map.{IsAscending, lookup}
use Rattle.adr_shared.proofs.tree.Tree.get.Given as goal

abbrev pub invariant-path : goal.invariant-path
invariant-path g l = record {
  ascends : IsAscending l.rest.0;
  value : lookup (g.Q.Sought.code l.key) l.rest.0 ≡ lookup (g.Q.Sought.code l.key) l.self.0;
}

abbrev pub decreases-path : goal.decreases-path
decreases-path g l = length l.rest.0
