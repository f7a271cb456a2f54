use Rattle.std.proofs.Common.{◌≡◌, ℕ, true, take}
use Rattle.adr_keys.specs.declared.key.Key.{Key}
use Rattle.adr_keys.specs.Rows.{offers_key}
use Rattle.adr_keys.specs.Sets.{holds, is_ready}
use Rattle.adr_keys.proofs.sets.Sets.reserve_all.Given as goal

abbrev pub invariant-loop-key : goal.invariant-loop-key
invariant-loop-key l = record {
  places : (k : Key) (p : ℕ) → holds l.self.places k p ≡ holds l.fn.self.places k p;
  ready : (k : Key) → offers_key (take l.key-index l.key-items) k ≡ true → is_ready l.self.places k l.place ≡ true;
  kept : (k : Key) (p : ℕ) → is_ready l.fn.self.places k p ≡ true → is_ready l.self.places k p ≡ true;
}
