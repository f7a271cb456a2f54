use Rattle.std.proofs.Common.{◌≡◌, ℕ}
use Rattle.adr_keys.specs.declared.key.Key.{Key}
use Rattle.adr_keys.specs.Sets.{holds}
use Rattle.adr_keys.proofs.index.prune_fresh.Given as goal

abbrev pub invariant-loop-row : goal.invariant-loop-row
invariant-loop-row l = (k : Key) (p : ℕ) → holds l.sets.places k p ≡ holds l.fn.sets.places k p
