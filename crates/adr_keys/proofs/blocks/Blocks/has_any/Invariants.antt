use Rattle.std.proofs.Common.{◌≡◌, ℕ, false, take}
use Rattle.std.specs.List.{list_any}
use Rattle.adr_keys.specs.Blocks.{is_set}
use Rattle.adr_keys.proofs.blocks.Blocks.has_any.Given as goal

-- none of the blocks so far has a place
abbrev pub invariant-loop-block : goal.invariant-loop-block
invariant-loop-block l = (p : ℕ) → list_any (is_set p) (take l.block-index l.block-items) ≡ false
