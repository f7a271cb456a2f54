use Rattle.std.proofs.Common.{◌≡◌, take}
use Rattle.adr_model.specs.Answer.{bounds}
use Rattle.adr_plain.proofs.governing.bounds.Given as goal

-- the moments of the entries so far
abbrev pub invariant-loop-entry : goal.invariant-loop-entry
invariant-loop-entry l = l.moments.items ≡ bounds (take l.entry-index l.entries)
