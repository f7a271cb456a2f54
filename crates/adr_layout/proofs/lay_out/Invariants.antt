use Rattle.std.proofs.Common.{◌≡◌, ◌≤◌, drop, length}
use Rattle.adr_model.specs.Layout.{first_start}
use Rattle.adr_layout.proofs.Remaining.{placed_spans, onto}
use Rattle.adr_layout.proofs.lay_out.Given as goal

-- the answer is what is placed, and then the answer for the intervals that are left
abbrev pub invariant-loop-place : goal.invariant-loop-place
invariant-loop-place l = record {
  within : l.place ≤ length l.intervals;
  answer :
      placed_spans l.default (first_start l.default) l.intervals 0
      ≡ onto l.placed.items (placed_spans l.default l.next (drop l.place l.intervals) l.place);
}
