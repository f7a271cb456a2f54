use Rattle.std.proofs.Common.{◌≡◌, false, subst, sym, ◌∙◌, arith}
use Rattle.std.proofs.lemmas.List.{get_or_read}
use Rattle.adr_model.specs.declared.entry.Entry.{Entry}
use Rattle.adr_model.specs.Entries.{is_listed_before}
use Rattle.adr_index.proofs.Ordered.{past_place, place_found}
use Rattle.adr_index.proofs.order.place_of.Goals as goal

pub returns-else-comes_before-clause-after : goal.returns-else-comes_before-clause-after
returns-else-comes_before-clause-after c = past_place c.args.entry.now c.args.entries.now c.loop-place.place c.requires.order c.loop-place.invariant.inside
    (λ lt d. subst (λ (x : Entry). is_listed_before x c.args.entry.now ≡ false) (get_or_read c.args.entries.now c.loop-place.place c.index-entries-place.result lt c.index-entries-place.is d) (sym c.comes_before.ensures ∙ c.if-comes_before.false))

pub returns-else-comes_before-clause-place : goal.returns-else-comes_before-clause-place
returns-else-comes_before-clause-place c = place_found c.args.entry.now c.args.entries.now c.loop-place.place c.loop-place.invariant.inside c.loop-place.invariant.before (returns-else-comes_before-clause-after c)

pub returns-after-loop-place-clause-place : goal.returns-after-loop-place-clause-place
returns-after-loop-place-clause-place c = place_found c.args.entry.now c.args.entries.now c.loop-place.place c.loop-place.invariant.inside c.loop-place.invariant.before
    (past_place c.args.entry.now c.args.entries.now c.loop-place.place c.requires.order c.loop-place.invariant.inside (λ lt d. absurd (omega (arith, lt, c.loop-place-test.false))))
