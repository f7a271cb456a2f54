use Rattle.std.proofs.Common.{◌≡◌, ◌+◌, ◌<◌, ◌≤◌, ◌/◌, ◌^◌, max, length, arith}
use Rattle.adr_shared.proofs.Heights.{low_fork, high_fork}
use Rattle.adr_shared.proofs.tree.fork.Goals as goal

pub invariant_of-result : goal.invariant_of-result
invariant_of-result g c =
    let d = c.requires in
    let count : c.in-Some-checked_add.count ≡ length c.args.left.0 + 1 + length c.args.right.0 = omega (arith, c.in-Some.ensures, c.in-Some-checked_add.ensures) in
    let height : c.max-height.result + 1 ≡ max c.args.left.1 c.args.right.1 + 1 = omega arith in
    let low : 2 ^ ((c.max-height.result + 1) / 2) ≤ c.in-Some-checked_add.count + 1 =
    rw (height, count) (low_fork c.args.left.1 c.args.right.1 (length c.args.left.0) (length c.args.right.0) d c.count.ensures.low c.count-2.ensures.low) in
    let high : c.in-Some-checked_add.count < 2 ^ (c.max-height.result + 1) =
    rw (height, count) (high_fork c.args.left.1 c.args.right.1 (length c.args.left.0) (length c.args.right.0) c.count.ensures.high c.count-2.ensures.high) in
    rw c.in_ok-new.ensures.ok (d, height, count, low, high, omega (arith, c.in-Some-checked_add.ensures))
