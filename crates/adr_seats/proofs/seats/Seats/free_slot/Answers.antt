use Rattle.std.proofs.Common.{eqb, ap, sym, ◌∙◌}
use Rattle.std.specs.List.{list_any}
use Rattle.adr_seats.specs.Table.{numbers}
use Rattle.adr_seats.proofs.Members.{members-none}
use Rattle.adr_seats.proofs.seats.Seats.free_slot.Goals as goal

pub returns-clause-free : goal.returns-clause-free
returns-clause-free c =
    let slot = c.in_ok-slot.slot in
    ap (list_any (λ s. eqb s slot)) (sym c.self.view_is) ∙ members-none slot (numbers c.self.inside.slots) (sym (c.self.invariant slot) ∙ c.in_ok-slot.ensures.free)
