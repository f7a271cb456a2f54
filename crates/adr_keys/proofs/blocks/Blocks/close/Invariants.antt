use Rattle.std.proofs.Common.{◌≡◌, ℕ, ◌≤◌, length, get_or, take}
use Rattle.std.specs.List.{list_any}
use Rattle.adr_keys.specs.Blocks.{is_set}
use Rattle.adr_keys.specs.declared.blocks.Block.{Block}
use Rattle.adr_keys.specs.Places.{before_closing}
use Rattle.adr_keys.proofs.blocks.Blocks.close.Given as goal

-- the blocks so far are written
abbrev pub invariant-loop-index : goal.invariant-loop-index
invariant-loop-index l = record {
  len : length l.self-inside.blocks.items ≡ length l.fn.self;
  places : (p : ℕ) → list_any (is_set p) (take l.index l.self-inside.blocks.items) ≡ list_any (is_set (before_closing l.place p)) (take l.index l.fn.self);
  rest : (j : ℕ) (d : Block) → l.index ≤ j → get_or l.self-inside.blocks.items j d ≡ get_or l.fn.self j d;
}
