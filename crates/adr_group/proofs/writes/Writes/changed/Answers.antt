use Rattle.std.proofs.Common.{ap, filter, ◌∙◌}
use Rattle.std.proofs.lemmas.List.Kept.{IsStrictlyIncreasing-filter}
use Rattle.adr_group.specs.Writes.{stays}
use Rattle.adr_group.proofs.Numbers.{changed_has}
use Rattle.adr_group.proofs.writes.Writes.changed.Goals as goal

pub put-requires : goal.put-requires
put-requires c = rw c.in_ok-numbers.ensures.ok (rw c.as_slice.ensures.value (IsStrictlyIncreasing-filter (stays c.args.gone) c.self.inside.numbers.items c.self.invariant))

pub returns-clause-numbers : goal.returns-clause-numbers
returns-clause-numbers c n =
    changed_has c.args.self.now c.in_ok-numbers.numbers.items c.put.new.numbers.items c.args.gone c.args.come
    (c.in_ok-numbers.ensures.ok ∙ ap (filter (stays c.args.gone)) (c.as_slice.ensures.value ∙ c.self.view_is))
    c.in_ok-put.ensures.has n
