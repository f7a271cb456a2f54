use Rattle.std.proofs.Common.{◌≡◌, ◌≤◌, ◌∙◌, ◌+◌, Some, ap, sym, subst, refl, eqb, map, arith}
use Rattle.std.specs.List.{IsDistinct}
use Rattle.std.specs.Option.{option_copied}
use Rattle.adr_value.specs.declared.limits.TheConstants.{MOST_ENTRIES}
use Rattle.adr_model.proofs.Keyed.{event_id}
use Rattle.adr_store.specs.Numbers.{by_number, all_entries}
use Rattle.adr_store.proofs.Found.{the_one, without_it, with_it}
use Rattle.adr_store.proofs.Counted.{told_small, counted_some, counted_within, counted_beside, counted_put, program_of, count_of, number_of_write}
use Rattle.adr_store.proofs.events.Events.with_changed.Goals as goal

pub without-requires-clause-named : goal.without-requires-clause-named
without-requires-clause-named c =
    counted_some c.self.inside.table c.id.result.now c.in-Some.old.now c.in-Some.ensures.distinct (sym c.get.ensures.value ∙ ap option_copied c.in-Some.is)
    c.self.inside.numbers.named.counts c.self.inside.numbers.entries c.self.inside.numbers.writes c.self.invariant (program_of c.in-Some.old.now) refl

pub without-requires-clause-entries : goal.without-requires-clause-entries
without-requires-clause-entries c =
    counted_within c.self.inside.table c.id.result.now c.in-Some.old.now c.in-Some.ensures.distinct (sym c.get.ensures.value ∙ ap option_copied c.in-Some.is)
    c.self.inside.numbers.named.counts c.self.inside.numbers.entries c.self.inside.numbers.writes c.self.invariant

pub with-requires-clause-bound : goal.with-requires-clause-bound
with-requires-clause-bound c =
    let id = c.new-kept.result.event.program_id in
    let few = told_small event_id program_of c.self.inside.numbers.named.counts c.self.inside.table c.self.invariant.naming (omega (arith, c.self.invariant.few)) id in
    omega (arith, few, c.in_ok-less.ensures.named id)

pub with-requires-clause-entries : goal.with-requires-clause-entries
with-requires-clause-entries c =
    let fits : all_entries (without_it event_id (event_id c.new-kept.result) c.self.inside.table) + count_of c.new-kept.result ≤ MOST_ENTRIES =
    rw (c.self.view_is, c.new-kept.ensures) c.requires.entries in
    let is : the_one event_id (event_id c.new-kept.result) c.self.inside.table ≡ Some c.in-Some.old.now =
    ap (λ id. the_one event_id id c.self.inside.table) (sym c.id.ensures) ∙ sym c.get.ensures.value ∙ ap option_copied c.in-Some.is in
    let beside = counted_beside c.self.inside.table (event_id c.new-kept.result) c.in-Some.old.now c.in-Some.ensures.distinct is
    c.self.inside.numbers.named.counts c.self.inside.numbers.entries c.self.inside.numbers.writes c.self.invariant in
    rw (c.in_ok-less.ensures.entries, beside) fits

pub invariant_of-result : goal.invariant_of-result
invariant_of-result c =
    let old = c.in-Some.old.now in
    let w = c.new-kept.result in
    let is : the_one event_id (event_id w) c.self.inside.table ≡ Some old =
    ap (λ id. the_one event_id id c.self.inside.table) (sym c.id.ensures) ∙ sym c.get.ensures.value ∙ ap option_copied c.in-Some.is in
    rw c.in_ok-with_changed.ensures
    (counted_put c.self.inside.table (event_id w) old c.in-Some.ensures.distinct is
    c.self.inside.numbers.named.counts c.in_ok-less.less.named.counts c.in_ok-with.field-0.named.counts c.self.inside.numbers.entries c.in_ok-with.field-0.entries
    c.self.inside.numbers.writes c.in_ok-less.less.writes c.in_ok-with.field-0.writes w c.self.invariant
    (subst (λ es. IsDistinct eqb (map number_of_write es)) (sym c.self.view_is) c.requires.apart)
    (ap (λ v. by_number c.self.inside.table v.written) c.new-kept.ensures ∙ ap (λ es. by_number es c.args.written) c.self.view_is ∙ c.requires.fresh)
    (rw (c.self.view_is, c.new-kept.ensures) c.requires.entries)
    (c.in_ok-with.ensures.entries ∙ ap (λ n. n + count_of w) c.in_ok-less.ensures.entries)
    (program_of old) refl c.in_ok-less.ensures.named
    (program_of w) refl c.in_ok-with.ensures.named
    c.in_ok-less.ensures.writes c.in_ok-with.ensures.writes)

pub returns : goal.returns
returns c =
    c.in_ok-with_changed.ensures
    ∙ ap (λ w. with_it event_id (event_id w) w c.self.inside.table) c.new-kept.ensures
    ∙ ap (λ ws. with_it event_id c.args.event.id (record { event = c.args.event; written = c.args.written }) ws) c.self.view_is
