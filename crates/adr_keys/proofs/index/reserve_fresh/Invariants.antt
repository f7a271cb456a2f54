use Rattle.std.proofs.Common.{◌≡◌, ℕ, ◌<◌, None, true, get_or}
use Rattle.adr_keys.specs.declared.key.Key.{Key}
use Rattle.adr_keys.specs.Rows.{offers_fresh}
use Rattle.adr_keys.specs.Sets.{holds, is_ready}
use Rattle.adr_keys.proofs.index.reserve_fresh.Given as goal

-- there is room for the rows so far
abbrev pub invariant-loop-place : goal.invariant-loop-place
invariant-loop-place l = record {
  same : (k : Key) (p : ℕ) → holds l.sets.places k p ≡ holds l.fn.sets.places k p;
  ready : (p : ℕ) (k : Key) → p < l.place → offers_fresh (get_or l.fresh p None) k ≡ true → is_ready l.sets.places k p ≡ true;
}
