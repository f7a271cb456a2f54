use Rattle.std.proofs.Common.{◌≡◌, drop}
use Rattle.adr_timeline.specs.Overlay.{hull_with}
use Rattle.adr_timeline.proofs.overlay.hull_of.Given as goal

-- what is left leads to the same
abbrev pub invariant-loop-entry : goal.invariant-loop-entry
invariant-loop-entry l = hull_with l.window (drop l.entry-index l.rest) ≡ hull_with l.initial.window l.rest
