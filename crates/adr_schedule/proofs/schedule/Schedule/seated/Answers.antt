use Rattle.std.proofs.Common.{ap, sym, subst, ◌∙◌}
use Rattle.adr_schedule.specs.Moves.{IsSat}
use Rattle.adr_schedule.specs.Seating.{Seating}
use Rattle.adr_schedule.specs.Slots.{AreSeated}
use Rattle.adr_schedule.proofs.Places.{sits_seated, sits_placed}
use Rattle.adr_schedule.proofs.schedule.Schedule.seated.Goals as goal

pub invariant_of-result : goal.invariant_of-result
invariant_of-result c =
    let s = c.args.self.now in
    let old = subst (λ (x : Seating). AreSeated x.seats x.groups) c.self.view_is c.self.invariant in
    let sat = subst (λ xs. IsSat xs c.args.place c.args.slot c.args.next c.new.result.values c.sit.new.seats c.in_ok-moves.moves.values) (c.in_ok-seats.ensures ∙ (c.get.ensures ∙ ap (λ (x : Seating). x.seats) c.self.view_is)) c.in_ok-moves.ensures.sat in
    let put = subst (λ vs. IsSat s.seats c.args.place c.args.slot c.args.next c.new.result.values c.sit.new.seats vs) (sym c.in_ok-groups.ensures) sat in
    rw c.in_ok-seats-2.ensures
    (sits_seated s c.args.place c.args.slot c.args.next c.args.groups c.requires.value.here.0 c.requires.slot old c.requires.value c.requires.value.here.1 c.sit.new.seats c.in_ok-groups.groups
    (subst (λ vs. IsSat s.seats c.args.place c.args.slot c.args.next vs c.sit.new.seats c.in_ok-groups.groups) c.new.ensures.values put))

pub returns-clause-placed : goal.returns-clause-placed
returns-clause-placed c g there =
    let s = c.args.self.now in
    let old = subst (λ (x : Seating). AreSeated x.seats x.groups) c.self.view_is c.self.invariant in
    let sat = subst (λ xs. IsSat xs c.args.place c.args.slot c.args.next c.new.result.values c.sit.new.seats c.in_ok-moves.moves.values) (c.in_ok-seats.ensures ∙ (c.get.ensures ∙ ap (λ (x : Seating). x.seats) c.self.view_is)) c.in_ok-moves.ensures.sat in
    let put = subst (λ vs. IsSat s.seats c.args.place c.args.slot c.args.next c.new.result.values c.sit.new.seats vs) (sym c.in_ok-groups.ensures) sat in
    rw c.in_ok-seats-2.ensures
    (sits_placed s c.args.place c.args.slot c.args.next c.args.groups g c.requires.slot old c.requires.value there c.sit.new.seats c.in_ok-groups.groups
    (subst (λ vs. IsSat s.seats c.args.place c.args.slot c.args.next vs c.sit.new.seats c.in_ok-groups.groups) c.new.ensures.values put))
