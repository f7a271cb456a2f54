use Rattle.std.proofs.Common.{◌≡◌, ◌++◌, drop}
use Rattle.adr_timeline.specs.Overlay.{spans_of}
use Rattle.adr_timeline.proofs.overlay.spans_of.Given as goal

-- where those that are left lie comes after the rest
abbrev pub invariant-loop-entry : goal.invariant-loop-entry
invariant-loop-entry l = l.spans.items ++ spans_of (drop l.entry-index l.entries) ≡ l.initial.spans.items ++ spans_of l.entries
