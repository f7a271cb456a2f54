use Rattle.std.proofs.Common.{◌+◌, length, subst, sym, ap, ◌∙◌}
use Rattle.adr_desk.specs.Bulk.{AreWritesFrom}
use Rattle.adr_desk.proofs.Seats.{none_left, one_fewer_left}
use Rattle.adr_desk.proofs.bulk.sharing.give_slots.Goals as goal

pub loop-writes-init : goal.loop-writes-init
loop-writes-init c book count before = before

pub loop-writes-preserved : goal.loop-writes-preserved
loop-writes-preserved c book count before =
    let rest = c.loop-writes.writes-iterator.rest in
    let after = c.next.new.self.rest in
    one_fewer_left book count c.loop-writes.slots.items c.push.new.self.items c.loop-writes.jobs.items c.slot_for.new.jobs.items rest.items after.items rest.len after.len
    c.in_ok-slot.slot c.in-Some.writes (c.loop-writes.invariant book count before) c.in-Some.ensures.steps.0 c.in-Some.ensures.steps.1 c.in_ok-push.ensures.items c.in_ok-slot.ensures.slot
    c.in_ok-slot.ensures.kept

pub returns-clause-planned : goal.returns-clause-planned
returns-clause-planned c book planned are =
    let it = c.into_iter-writes-iterator in
    let old = c.args.slots.now.items in
    let all = c.args.all in
    let many = it.ensures.into_iter_gives.1 ∙ all.ok.0 in
    let rest = c.loop-writes.writes-iterator.rest in
    none_left book (length old + length all.items) c.loop-writes.slots.items c.loop-writes.jobs.items rest.items rest.len
    (c.loop-writes.invariant book (length old + length all.items) (planned, ap (λ n. length old + n) many, subst (λ n. AreWritesFrom book (length old) n it.result.rest.items) (sym many) (subst (λ xs. AreWritesFrom book (length old) (length all.items) xs) (sym it.ensures.into_iter_gives.0) are)))
    c.in-None.ensures.steps.0
