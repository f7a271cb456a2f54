use Rattle.std.proofs.Common.{◌∙◌, ◌-◌, ap, sym, refl, arith}
use Rattle.std.specs.Option.{option_copied}
use Rattle.adr_model.proofs.Keyed.{event_id}
use Rattle.adr_store.proofs.Found.{without_none}
use Rattle.adr_store.proofs.Counted.{counted_within, counted_beside}
use Rattle.adr_store.specs.Numbers.{all_entries}
use Rattle.adr_store.proofs.events.Events.entries_beside.Goals as goal

pub overflow_sub-result : goal.overflow_sub-result
overflow_sub-result c =
    let h = counted_within c.self.inside.table c.args.id.now c.in-Some.kept.now c.get.ensures.distinct (sym c.get.ensures.value ∙ ap option_copied c.in-Some.is)
    c.self.inside.numbers.named.counts c.self.inside.numbers.entries c.self.inside.numbers.writes c.self.invariant in
    omega (arith, h, c.entries.ensures)

pub returns-in-Some-clause-value : goal.returns-in-Some-clause-value
returns-in-Some-clause-value c =
    ap (λ n. c.self.inside.numbers.entries - n) c.entries.ensures
    ∙ counted_beside c.self.inside.table c.args.id.now c.in-Some.kept.now c.get.ensures.distinct (sym c.get.ensures.value ∙ ap option_copied c.in-Some.is)
    c.self.inside.numbers.named.counts c.self.inside.numbers.entries c.self.inside.numbers.writes c.self.invariant
    ∙ rw c.self.view_is refl

pub returns-in-None-clause-value : goal.returns-in-None-clause-value
returns-in-None-clause-value c =
    c.self.invariant.counted
    ∙ ap all_entries (sym (without_none event_id c.args.id.now c.self.inside.table (sym c.get.ensures.value ∙ ap option_copied c.in-None.is)))
    ∙ rw c.self.view_is refl
