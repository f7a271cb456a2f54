use Rattle.std.proofs.Common.{◌≡◌, length, drop}
use Rattle.adr_fan.specs.Parts.{AreInOrder}
use Rattle.adr_fan.proofs.checking.are_in_order.Given as goal

abbrev pub invariant-loop-at : goal.invariant-loop-at
invariant-loop-at l =
    (length l.sent ≡ length l.replies) × (AreInOrder l.last l.seen (drop l.at l.sent) (drop l.at l.replies) → AreInOrder l.last 0 l.sent l.replies)
