use Rattle.std.proofs.Common.{◌≡◌, ℕ}
use Rattle.adr_keys.specs.declared.key.Key.{Key}
use Rattle.adr_keys.specs.Sets.{holds}
use Rattle.adr_keys.proofs.sets.Sets.prune_all.Given as goal

abbrev pub invariant-loop-key : goal.invariant-loop-key
invariant-loop-key l = (k : Key) (p : ℕ) → holds l.self.places k p ≡ holds l.fn.self.places k p
