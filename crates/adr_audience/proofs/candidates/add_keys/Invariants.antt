use Rattle.std.proofs.Common.{◌≡◌, ℕ, ◌||◌, [], true, get_or, take}
use Rattle.adr_keys.specs.Places.{has, fits}
use Rattle.adr_audience.specs.Asks.{shares}
use Rattle.adr_audience.proofs.candidates.add_keys.Given as goal

-- the places of the keys so far are added
abbrev pub invariant-loop-key : goal.invariant-loop-key
invariant-loop-key l = record {
  places : (p : ℕ) → fits l.fn.found p ≡ true → has l.found p ≡ (has l.fn.found p || shares (get_or l.index p []) (take l.key-index l.keys));
  room : (p : ℕ) → fits l.found p ≡ fits l.fn.found p;
}
