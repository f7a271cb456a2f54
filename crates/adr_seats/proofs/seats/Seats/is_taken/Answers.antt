use Rattle.std.proofs.Common.{not, eqb, ap, sym, ◌∙◌}
use Rattle.std.specs.List.{list_any}
use Rattle.adr_seats.specs.Table.{numbers}
use Rattle.adr_seats.proofs.Members.{members-any}
use Rattle.adr_seats.proofs.seats.Seats.is_taken.Goals as goal

pub returns : goal.returns
returns c =
    let slot = c.args.slot in
    ap (λ n. not (eqb n 0)) (c.of.ensures ∙ c.self.invariant slot) ∙ sym (members-any slot (numbers c.self.inside.slots)) ∙ ap (list_any (λ s. eqb s slot)) c.self.view_is
