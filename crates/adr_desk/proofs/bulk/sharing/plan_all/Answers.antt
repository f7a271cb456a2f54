use Rattle.std.proofs.Common.{◌≡◌, length, ap, sym, subst, ◌∙◌, arith}
use Rattle.adr_desk.specs.Bulk.{ArePlanned}
use Rattle.adr_desk.proofs.Seats.{none_planned, part_planned}
use Rattle.adr_desk.proofs.bulk.sharing.plan_all.Given.{Over}
use Rattle.adr_desk.proofs.bulk.sharing.plan_all.Goals as goal

pub rest-init : goal.rest-init
rest-init g c =
    let none = c.new-slots.ensures.items in
    let reached : length c.new-slots.result.items ≡ 0 = ap (λ xs. length xs) none in (
      subst (λ n. ArePlanned c.args.book.now.objects n c.new-slots.result.items c.new-jobs.result.items) (sym reached) (none_planned c.args.book.now.objects c.new-slots.result.items c.new-jobs.result.items none),
      omega (arith, reached),
    )

-- the part's resources have their slots too
planned : (g : Over) (c : goal.In_ok-give_slots g) → ArePlanned c.args.book.now.objects c.min-end.result c.give_slots.new.slots.items c.give_slots.new.jobs.items
planned g c =
    part_planned c.args.book.now.objects c.len-start.result c.min-end.result c.rest.slots.items c.give_slots.new.slots.items c.rest.jobs.items c.give_slots.new.jobs.items c.in_ok-all.all.items
    (c.len-start.ensures ∙ c.rest.slots.ok.0) (omega (arith, c.min-end.ensures, c.rest-test.true, c.len.ensures, c.len-start.ensures)) c.in_ok-all.ensures.writes c.rest.invariant.0 c.in_ok-give_slots.ensures.planned

pub rest-smaller : goal.rest-smaller
rest-smaller g c =
    let reached = (planned g c).0 in
    omega (arith, reached, c.min-end.ensures, c.rest-test.true, c.len.ensures, c.len-start.ensures, c.rest.slots.ok.0, c.count-count.ensures.value)

pub rest-preserved : goal.rest-preserved
rest-preserved g c =
    let p = planned g c in
    let reached = p.0 in (
      subst (λ n. ArePlanned c.args.book.now.objects n c.give_slots.new.slots.items c.give_slots.new.jobs.items) (sym reached) p,
      omega (arith, reached, c.min-end.ensures, c.rest-test.true, c.len.ensures, c.len-start.ensures, c.rest.slots.ok.0, c.count-count.ensures.value),
    )

pub returns-clause-planned : goal.returns-clause-planned
returns-clause-planned g c =
    let p = c.rest.invariant in
    let few = p.1 in
    subst (λ n. ArePlanned c.args.book.now.objects n c.rest.slots.items c.rest.jobs.items) (omega (arith, few, c.rest-test.false, c.len.ensures, c.rest.slots.ok.0, c.count-count.ensures.value)) p.0
