use Rattle.std.proofs.Common.{◌≡◌, ◌++◌, length}
use Rattle.adr_group.specs.Governed.{own_spans}
use Rattle.adr_group.proofs.governed.add_own.Given as goal

-- the spans of the segments that are left come after the rest
abbrev pub invariant-rest : goal.invariant-rest
invariant-rest l = l.spans.items ++ own_spans l.number l.rest ≡ l.fn.spans.items ++ own_spans l.number l.segments

abbrev pub decreases-rest : goal.decreases-rest
decreases-rest l = length l.rest
