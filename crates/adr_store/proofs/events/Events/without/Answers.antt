use Rattle.std.proofs.Common.{◌∙◌, ap, sym, subst, eqb, map, refl}
use Rattle.std.specs.List.{IsDistinct}
use Rattle.std.specs.Option.{option_copied}
use Rattle.adr_refusal.specs.Copy.{IsCopyOf}
use Rattle.adr_model.proofs.Keyed.{event_id}
use Rattle.adr_store.proofs.Found.{the_one, without_none}
use Rattle.adr_store.proofs.Counted.{counted_some, counted_within, counted_drop, number_of_write, program_of}
use Rattle.adr_store.proofs.events.Events.without.Goals as goal

pub returns-in_default : goal.returns-in_default
returns-in_default c =
    let none = ap (λ es. the_one event_id c.args.id.now es) (sym c.self.view_is) ∙ sym c.get.ensures.value ∙ ap option_copied c.in_default.is in
    subst (λ es. IsCopyOf c.copy.result es) (sym (without_none event_id c.args.id.now c.args.self.now none)) c.copy.ensures

pub without-requires-clause-named : goal.without-requires-clause-named
without-requires-clause-named c =
    counted_some c.self.inside.table c.args.id.now c.in-Some.old.now c.in-Some.ensures.distinct (sym c.get.ensures.value ∙ ap option_copied c.in-Some.is)
    c.self.inside.numbers.named.counts c.self.inside.numbers.entries c.self.inside.numbers.writes c.self.invariant (program_of c.in-Some.old.now) refl

pub without-requires-clause-entries : goal.without-requires-clause-entries
without-requires-clause-entries c =
    counted_within c.self.inside.table c.args.id.now c.in-Some.old.now c.in-Some.ensures.distinct (sym c.get.ensures.value ∙ ap option_copied c.in-Some.is)
    c.self.inside.numbers.named.counts c.self.inside.numbers.entries c.self.inside.numbers.writes c.self.invariant

pub invariant_of-result : goal.invariant_of-result
invariant_of-result c =
    rw c.in_ok-without-2.ensures
    (counted_drop c.self.inside.table c.args.id.now c.in-Some.old.now c.in-Some.ensures.distinct (sym c.get.ensures.value ∙ ap option_copied c.in-Some.is)
    c.self.inside.numbers.named.counts c.in_ok-without.field-0.named.counts c.self.inside.numbers.entries c.in_ok-without.field-0.entries
    c.self.inside.numbers.writes c.in_ok-without.field-0.writes c.self.invariant
    (subst (λ es. IsDistinct eqb (map number_of_write es)) (sym c.self.view_is) c.requires.apart)
    c.in_ok-without.ensures.entries
    (program_of c.in-Some.old.now) refl c.in_ok-without.ensures.named c.in_ok-without.ensures.writes)
