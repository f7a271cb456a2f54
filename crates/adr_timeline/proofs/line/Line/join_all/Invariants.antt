use Rattle.std.proofs.Common.{◌≡◌, drop}
use Rattle.adr_timeline.specs.Parts.{joined_all}
use Rattle.adr_timeline.proofs.line.Line.join_all.Given as goal

-- the pieces that are left lead to the same
abbrev pub invariant-loop-piece : goal.invariant-loop-piece
invariant-loop-piece l = joined_all l.self (drop l.piece-index l.pieces) ≡ joined_all l.fn.self l.pieces
