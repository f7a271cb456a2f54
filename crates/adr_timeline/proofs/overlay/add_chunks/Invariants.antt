use Rattle.std.proofs.Common.{◌≡◌, ◌++◌, drop, map}
use Rattle.adr_timeline.specs.Chunks.{listed}
use Rattle.adr_timeline.specs.Overlay.{shown_entry}
use Rattle.adr_timeline.proofs.overlay.add_chunks.Given as goal

-- the entries of the chunks that are left come after the rest
abbrev pub invariant-loop-chunk : goal.invariant-loop-chunk
invariant-loop-chunk g l = l.entries.items ++ map (shown_entry (g.R.Ranks.rank l.ranks)) (listed (drop l.chunk-index l.chunks)) ≡ l.fn.entries.items ++ map (shown_entry (g.R.Ranks.rank l.ranks)) (listed l.chunks)
