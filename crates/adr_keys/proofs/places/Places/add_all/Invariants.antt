use Rattle.std.proofs.Common.{◌≡◌, ℕ, ◌||◌, true, length, take}
use Rattle.std.specs.List.{list_any}
use Rattle.adr_keys.specs.Blocks.{is_set}
use Rattle.adr_keys.specs.Places.{has, fits}
use Rattle.adr_keys.proofs.places.Places.add_all.Given as goal

-- the blocks so far are added
abbrev pub invariant-loop-block : goal.invariant-loop-block
invariant-loop-block l = record {
  len : length l.self ≡ length l.fn.self;
  places : (p : ℕ) → fits l.fn.self p ≡ true → has l.self p ≡ (has l.fn.self p || list_any (is_set p) (take l.block-index l.block-items));
}
