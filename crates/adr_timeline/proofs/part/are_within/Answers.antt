use Rattle.std.proofs.Common.{rules, ◌≡◌, true}
use Rattle.adr_timeline.specs.Chunks.{is_from}
use Rattle.adr_timeline.proofs.Chunks.{all_within}
use Rattle.adr_timeline.proofs.part.are_within.Goals as goal

pub returns-then-is_from : goal.returns-then-is_from
returns-then-is_from c =
    let begins : is_from c.args.from.now c.first-2.result.start ≡ true = search rules in
    rw (
      all_within c.args.chunks.now c.in-Some-Some.first.now c.in-Some-Some.last.now c.first-2.result c.args.from.now c.args.until.now (search rules) c.first-2.ensures.first (search rules) c.segments.ensures.filled,
      begins,
    ) (search rules)
