use Rattle.std.proofs.Common.{◌<◌, ℕ, arith, subst, sym}
use Rattle.adr_model.specs.declared.written.Written.{Written}
use Rattle.adr_model.specs.Touches.{touches_of}
use Rattle.adr_regroup.specs.Compared.{most_compared_in}
use Rattle.adr_regroup.proofs.Differing.{most_for, place_cost, reseats_fewer}
use Rattle.adr_regroup.proofs.Placing.{there}
use Rattle.adr_regroup.proofs.Reseated.{next_seated}
use Rattle.adr_regroup.proofs.reseat.reseated.Goals as goal

pub returns-clause-seated : goal.returns-clause-seated
returns-clause-seated g c =
    let basis = c.args.basis.now in
    next_seated basis.tie basis.new.now.objects c.args.spot.place c.args.others.now c.args.writes.now c.args.schedule.now c.in_ok-after.after c.requires.seated c.in_ok-after.ensures.writes
    (c.in_ok-after.ensures.right c.requires.basis.indexed c.requires.seated.right) c.requires.writes

pub returns-clause-fewer : goal.returns-clause-fewer
returns-clause-fewer g c =
    let basis = c.args.basis.now in
    reseats_fewer basis.new.now.objects c.args.spot.place c.args.writes.now c.args.schedule.now c.in_ok-after.after c.requires.seated.count c.in_ok-after.ensures.writes c.requires.writes

pub returns-clause-least : goal.returns-clause-least
returns-clause-least g c =
    let basis = c.args.basis.now in
    let book = basis.new.now.objects in
    let laws = c.book_laws.ensures in
    let held = c.schedule_laws.ensures c.args.spot.place (subst (λ n. c.args.spot.place < n) (sym c.requires.seated.count) c.requires.place) in
    let r = there book.resources c.args.spot.place c.requires.place in
    let numbers = c.args.writes.now in
    let cost : Written → ℕ = λ w. most_compared_in book (touches_of r.0.id w) in
    let own = place_cost book c.args.spot.place r.0 numbers r.1 c.requires.writes c.args.schedule.now held.0 held.1 (c.writes_ascend.ensures held.0 held.1) c.numbers.ensures.order in
    let most = c.in_ok-after.ensures.least held.0 cost held.1 (most_for book c.args.spot.place r.0 numbers r.1 c.requires.writes basis.tie basis.indexes.now laws.whole c.requires.basis.indexed) in
    omega (arith, own, most)
