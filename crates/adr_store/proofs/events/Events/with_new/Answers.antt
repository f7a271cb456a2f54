use Rattle.std.proofs.Common.{◌∙◌, ap, refl, arith}
use Rattle.adr_model.proofs.Keyed.{event_id}
use Rattle.adr_store.specs.Numbers.{by_number}
use Rattle.adr_store.proofs.Counted.{told_small, counted_more, program_of}
use Rattle.adr_store.proofs.events.Events.with_new.Goals as goal

pub with-requires-clause-bound : goal.with-requires-clause-bound
with-requires-clause-bound c =
    told_small event_id program_of c.self.inside.numbers.named.counts c.self.inside.table c.self.invariant.naming (omega (arith, c.self.invariant.few)) c.new-kept.result.event.program_id

pub invariant_of-result : goal.invariant_of-result
invariant_of-result c =
    let w = c.new-kept.result in
    rw c.in_ok-with_new.ensures
    (counted_more c.self.inside.table c.self.inside.numbers.named.counts c.in_ok-with.field-0.named.counts c.self.inside.numbers.entries c.in_ok-with.field-0.entries
    c.self.inside.numbers.writes c.in_ok-with.field-0.writes w c.self.invariant
    (ap (λ v. by_number c.self.inside.table v.written) c.new-kept.ensures ∙ ap (λ es. by_number es c.args.written) c.self.view_is ∙ c.requires.fresh)
    (rw c.self.view_is c.requires.few)
    c.in_ok-with.ensures.entries
    (rw (c.self.view_is, c.new-kept.ensures) c.requires.entries)
    (program_of w) refl c.in_ok-with.ensures.named c.in_ok-with.ensures.writes)
