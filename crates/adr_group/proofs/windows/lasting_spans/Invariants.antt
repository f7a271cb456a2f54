use Rattle.std.proofs.Common.{length}
use Rattle.adr_group.proofs.Seen.{AreLasting}
use Rattle.adr_group.proofs.windows.lasting_spans.Given as goal

-- the spans so far are those of the windows before those that are left
abbrev pub invariant-rest : goal.invariant-rest
invariant-rest l = AreLasting l.windows l.rest l.spans.items

abbrev pub decreases-rest : goal.decreases-rest
decreases-rest l = length l.rest
