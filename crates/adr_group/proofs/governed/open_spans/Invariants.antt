use Rattle.std.proofs.Common.{◌≡◌, ℤ, ◌≤ℤ◌, length}
use Rattle.adr_timeline.specs.Windows.{any_covers}
use Rattle.adr_group.specs.Governed.{AreInOrder}
use Rattle.adr_group.proofs.governed.open_spans.Given as goal

-- those that are left are in order, and cover what all do from the moment on
abbrev pub invariant-rest : goal.invariant-rest
invariant-rest l = AreInOrder l.rest × ((t : ℤ) → l.at ≤ℤ t → any_covers l.rest t ≡ any_covers l.spans t)

abbrev pub decreases-rest : goal.decreases-rest
decreases-rest l = length l.rest
