use Rattle.std.proofs.Common.{◌≡◌, ◌++◌, length}
use Rattle.adr_timeline.specs.Chunks.{listed}
use Rattle.adr_group.specs.Governed.{own_spans}
use Rattle.adr_group.proofs.governed.governed_spans.Given as goal

-- the spans of the chunks that are left come after the rest
abbrev pub invariant-rest : goal.invariant-rest
invariant-rest l = l.spans.items ++ own_spans l.number (listed l.rest) ≡ own_spans l.number l.line

abbrev pub decreases-rest : goal.decreases-rest
decreases-rest l = length l.rest
