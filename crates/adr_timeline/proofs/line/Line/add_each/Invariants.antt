use Rattle.std.proofs.Common.{◌≡◌, ◌++◌, drop}
use Rattle.adr_timeline.proofs.line.Line.add_each.Given as goal

-- the pieces that are left come after the rest
abbrev pub invariant-loop-piece : goal.invariant-loop-piece
invariant-loop-piece l = l.self ++ drop l.piece-index l.pieces ≡ l.fn.self ++ l.pieces
