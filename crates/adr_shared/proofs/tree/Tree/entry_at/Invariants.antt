use Rattle.std.proofs.Common.{◌≡◌, length, slice_get}
use Rattle.adr_shared.proofs.tree.Tree.entry_at.Given as goal

abbrev pub invariant-path : goal.invariant-path
invariant-path g l = slice_get l.rest.0 l.offset ≡ slice_get l.self.0 l.place

abbrev pub decreases-path : goal.decreases-path
decreases-path g l = length l.rest.0
