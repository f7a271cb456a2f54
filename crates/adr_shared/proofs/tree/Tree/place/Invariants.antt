use Rattle.std.proofs.Common.{◌≡◌, ◌+◌, ◌≤◌, ◌<◌, ◌^◌, length}
use Rattle.adr_shared.specs.Map.{IsAscending, place_of}
use Rattle.adr_shared.proofs.Path.{place_past}
use Rattle.adr_shared.proofs.tree.Tree.place.Given as goal

abbrev pub invariant-path : goal.invariant-path
invariant-path g l = record {
  ascends : IsAscending l.rest.0;
  within : l.passed + length l.rest.0 ≤ length l.self.0;
  limit : length l.self.0 < 2 ^ 32;
  place : place_past l.passed (place_of (g.K.MapKey.code l.key) l.rest.0) ≡ place_of (g.K.MapKey.code l.key) l.self.0;
}

abbrev pub decreases-path : goal.decreases-path
decreases-path g l = length l.rest.0
