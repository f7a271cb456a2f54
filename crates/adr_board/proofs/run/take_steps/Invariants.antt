use Rattle.std.proofs.Common.{◌≡◌, All, vec_len}
use Rattle.std.specs.Vec.Iter.{into_iter_items}
use Rattle.adr_board.specs.Replay.{NamesReader}
use Rattle.adr_board.proofs.Runs.{LeadsOn}
use Rattle.adr_board.proofs.run.take_steps.Given as goal

-- the steps that are left are of the same readers, and what they show goes on from what was shown
abbrev pub invariant-loop-step : goal.invariant-loop-step
invariant-loop-step g l =
    (vec_len l.readers ≡ vec_len l.fn.readers)
    × All (NamesReader (vec_len l.fn.readers)) (into_iter_items l.step-iterator)
    × LeadsOn l.fn.editor l.fn.readers.items l.fn.steps.items l.shown.items l.editor l.readers.items (into_iter_items l.step-iterator)
