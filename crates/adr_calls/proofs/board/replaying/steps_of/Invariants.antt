use Rattle.std.proofs.Common.{All}
use Rattle.adr_board.specs.Replay.{NamesReader}
use Rattle.adr_calls.proofs.board.replaying.steps_of.Given as goal

-- no step so far is of another reader
abbrev pub invariant-loop-line : goal.invariant-loop-line
invariant-loop-line l = All (NamesReader l.readers) l.steps.items
