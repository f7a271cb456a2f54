use Rattle.std.proofs.Common.{◌≡◌, ◌++◌, drop}
use Rattle.adr_timeline.proofs.timeline.shared.Given as goal

-- the chunks that are left come after the rest
abbrev pub invariant-loop-chunk : goal.invariant-loop-chunk
invariant-loop-chunk l = l.copies.items ++ drop l.chunk-index l.chunks ≡ l.chunks
