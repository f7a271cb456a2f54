use Rattle.std.proofs.Common.{sym, subst}
use Rattle.std.proofs.lemmas.Result.{IfOk-weaker}
use Rattle.std.specs.Prelude.{IfSome}
use Rattle.adr_schedule.specs.Moves.{AreMadeFor}
use Rattle.adr_schedule.specs.Seating.{Seating}
use Rattle.adr_schedule.specs.Shift.{Becomes}
use Rattle.adr_schedule.specs.Tally.{AreAllOf}
use Rattle.adr_schedule.proofs.Shifts.{is_shifted, right_shifted}
use Rattle.adr_schedule.proofs.schedule.Schedule.shifted.Goals as goal

pub invariant_of-result : goal.invariant_of-result
invariant_of-result g c =
    let p = Becomes c.args.change.now c.args.indexes.now in
    let made = c.in_ok-remade.remade.groups in
    let at = subst (λ z. AreMadeFor p c.args.places.now z c.in_ok-groups.groups made) (sym c.in_ok-seats.ensures)
    (subst (λ z. AreMadeFor p c.args.places.now z c.in_ok-groups.groups made) (sym c.get.ensures)
    (subst (λ z. AreMadeFor p c.args.places.now c.self.inside.seats z made) (sym c.in_ok-groups.ensures)
    (subst (λ (s : Seating). AreMadeFor p c.args.places.now s.seats s.groups made) (sym c.self.view_is) c.in_ok-remade.ensures.made))) in
    rw (c.in_ok-groups-2.ensures, c.in_ok-seats-2.ensures) (c.in_ok-moves.ensures.moved c.args.change.now c.args.indexes.now at).moving.seated

pub returns-clause-shifted : goal.returns-clause-shifted
returns-clause-shifted g c =
    let p = Becomes c.args.change.now c.args.indexes.now in
    let made = c.in_ok-remade.remade.groups in
    let at = subst (λ z. AreMadeFor p c.args.places.now z c.in_ok-groups.groups made) (sym c.in_ok-seats.ensures)
    (subst (λ z. AreMadeFor p c.args.places.now z c.in_ok-groups.groups made) (sym c.get.ensures)
    (subst (λ z. AreMadeFor p c.args.places.now c.self.inside.seats z made) (sym c.in_ok-groups.ensures)
    (subst (λ (s : Seating). AreMadeFor p c.args.places.now s.seats s.groups made) (sym c.self.view_is) c.in_ok-remade.ensures.made))) in
    let old : Seating = record { seats = c.self.inside.seats; groups = c.self.inside.groups } in
    let new : Seating = record { seats = c.in_ok-seats-2.seats; groups = c.in_ok-groups-2.groups } in
    rw (← c.self.view_is)
    (is_shifted c.args.change.now c.args.indexes.now c.args.places.now old new c.self.invariant
    (rw (c.in_ok-groups-2.ensures, c.in_ok-seats-2.ensures) (rw (← c.get.ensures, ← c.in_ok-seats.ensures, ← c.in_ok-groups.ensures) (c.in_ok-moves.ensures.moved c.args.change.now c.args.indexes.now at).moved)))

pub returns-clause-right : goal.returns-clause-right
returns-clause-right g c =
    let p = Becomes c.args.change.now c.args.indexes.now in
    let made = c.in_ok-remade.remade.groups in
    let at = subst (λ z. AreMadeFor p c.args.places.now z c.in_ok-groups.groups made) (sym c.in_ok-seats.ensures)
    (subst (λ z. AreMadeFor p c.args.places.now z c.in_ok-groups.groups made) (sym c.get.ensures)
    (subst (λ z. AreMadeFor p c.args.places.now c.self.inside.seats z made) (sym c.in_ok-groups.ensures)
    (subst (λ (s : Seating). AreMadeFor p c.args.places.now s.seats s.groups made) (sym c.self.view_is) c.in_ok-remade.ensures.made))) in
    let old : Seating = record { seats = c.self.inside.seats; groups = c.self.inside.groups } in
    let new : Seating = record { seats = c.in_ok-seats-2.seats; groups = c.in_ok-groups-2.groups } in
    rw (← c.self.view_is)
    (right_shifted c.args.change.now c.args.indexes.now c.args.places.now old new c.self.invariant
    (rw (c.in_ok-groups-2.ensures, c.in_ok-seats-2.ensures) (rw (← c.get.ensures, ← c.in_ok-seats.ensures, ← c.in_ok-groups.ensures) (c.in_ok-moves.ensures.moved c.args.change.now c.args.indexes.now at).moved)))

pub returns-in-Some-clause-shifted : goal.returns-in-Some-clause-shifted
returns-in-Some-clause-shifted g c =
    let seats = c.args.self.now.seats in
    let all = subst (λ o. IfSome o (λ slots. AreAllOf seats c.args.places.now slots.items)) c.in-Some.is c.in_ok-remade.ensures.all in
    let slots = subst (λ l. AreAllOf seats c.args.places.now l) (sym c.as_slice.ensures.value) all in
    IfOk-weaker c.exchanged.result _ _ (λ after shifted. shifted c.args.change.now c.args.indexes.now c.args.places.now slots c.in_ok-remade.ensures.made) c.exchanged.ensures.shifted

pub returns-in-Some-clause-right : goal.returns-in-Some-clause-right
returns-in-Some-clause-right g c =
    let seats = c.args.self.now.seats in
    let all = subst (λ o. IfSome o (λ slots. AreAllOf seats c.args.places.now slots.items)) c.in-Some.is c.in_ok-remade.ensures.all in
    let slots = subst (λ l. AreAllOf seats c.args.places.now l) (sym c.as_slice.ensures.value) all in
    IfOk-weaker c.exchanged.result _ _ (λ after right. right c.args.change.now c.args.indexes.now c.args.places.now slots c.in_ok-remade.ensures.made) c.exchanged.ensures.right
