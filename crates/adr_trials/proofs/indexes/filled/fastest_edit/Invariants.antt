use Rattle.std.proofs.Common.{◌+◌, ◌*◌}
use Rattle.adr_trials.specs.Numbers.{AreBelow}
use Rattle.adr_trials.proofs.indexes.filled.fastest_edit.Given as goal

abbrev pub invariant-loop-time : goal.invariant-loop-time
invariant-loop-time g l = AreBelow (l.count + 16 * l.time) l.index.entries
