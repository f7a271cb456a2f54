use Rattle.std.proofs.Common.{◌≡◌, ◌+◌, drop, length}
use Rattle.adr_timeline.specs.Chunks.{listed}
use Rattle.adr_timeline.proofs.timeline.fits.Given as goal

-- as many may come as are left of those that may be there at most
abbrev pub invariant-loop-chunk : goal.invariant-loop-chunk
invariant-loop-chunk l = length (listed l.chunks) + l.left ≡ l.most + length (listed (drop l.chunk-index l.chunks))
