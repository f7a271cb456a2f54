use Rattle.std.proofs.Common.{◌≡◌, ◌++◌, ℕ, List, length}
use Rattle.std.specs.Io.KnownBytes.{Appends}
use Rattle.adr_script.specs.Logs.{has_write_failed}
use Rattle.adr_script.proofs.output.write_fully.Given as goal

-- what is gone from the rest was written
abbrev pub invariant-loop-rest : goal.invariant-loop-rest
invariant-loop-rest g l = record {
  unfailed : has_write_failed l.log ≡ has_write_failed l.initial.log;
  told : (part : List ℕ) × (l.bytes ≡ part ++ l.rest) × Appends (g.W.Write.contents l.initial.writer) (g.W.Write.contents l.writer) part;
}

abbrev pub decreases-loop-rest : goal.decreases-loop-rest
decreases-loop-rest g l = length l.rest
