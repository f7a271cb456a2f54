use Rattle.std.proofs.Common.{◌≡◌, ℕ, ◌==◌, ◌&&◌, ◌||◌, take}
use Rattle.adr_keys.specs.declared.key.Key.{Key}
use Rattle.adr_keys.specs.Rows.{offers_key}
use Rattle.adr_keys.specs.Sets.{holds, is_ready}
use Rattle.adr_keys.proofs.sets.Sets.put_all.Given as goal

abbrev pub invariant-loop-key : goal.invariant-loop-key
invariant-loop-key l = record {
  places : (k : Key) (p : ℕ) → holds l.self.places k p ≡ ((offers_key (take l.key-index l.key-items) k && (p == l.place)) || holds l.fn.self.places k p);
  ready : (k : Key) (p : ℕ) → is_ready l.self.places k p ≡ is_ready l.fn.self.places k p;
}
