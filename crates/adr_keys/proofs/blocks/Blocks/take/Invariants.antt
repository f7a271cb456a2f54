use Rattle.std.proofs.Common.{◌≡◌, ℕ, ◌≤◌, ◌&&◌, not, eqb, length, get_or, take}
use Rattle.std.specs.List.{list_any}
use Rattle.adr_keys.specs.Blocks.{is_set, covers}
use Rattle.adr_keys.specs.declared.blocks.Block.{Block}
use Rattle.adr_keys.proofs.blocks.Blocks.take.Given as goal

-- the blocks so far are written
abbrev pub invariant-loop-index : goal.invariant-loop-index
invariant-loop-index l = record {
  len : length l.self-inside.blocks.items ≡ length l.fn.self;
  places : (p : ℕ) → list_any (is_set p) (take l.index l.self-inside.blocks.items) ≡ list_any (λ b. not (eqb p l.place) && is_set p b) (take l.index l.fn.self);
  room : (p : ℕ) → list_any (covers p) (take l.index l.self-inside.blocks.items) ≡ list_any (covers p) (take l.index l.fn.self);
  rest : (j : ℕ) (d : Block) → l.index ≤ j → get_or l.self-inside.blocks.items j d ≡ get_or l.fn.self j d;
}
