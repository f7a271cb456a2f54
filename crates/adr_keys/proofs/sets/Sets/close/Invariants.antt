use Rattle.std.proofs.Common.{◌≡◌, ℕ, [], get_or}
use Rattle.std.specs.Map.{keys_of, values_of}
use Rattle.adr_keys.specs.Blocks.{includes}
use Rattle.adr_keys.proofs.Held.{is_closed}
use Rattle.adr_keys.proofs.sets.Sets.close.Given as goal

-- the sets so far are closed, and the keys stay
abbrev pub invariant-loop-index : goal.invariant-loop-index
invariant-loop-index l = record {
  keys : keys_of l.self.places.entries ≡ keys_of l.fn.self.places.entries;
  sets : (i p : ℕ) → includes (get_or (values_of l.self.places.entries) i []) p ≡ is_closed l.place l.index l.fn.self.places.entries i p;
}
