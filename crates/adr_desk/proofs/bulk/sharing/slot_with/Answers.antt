use Rattle.std.proofs.Common.{Some, refl, ap, ◌∙◌}
use Rattle.std.proofs.lemmas.Option.{slice_get_read}
use Rattle.adr_desk.proofs.bulk.sharing.slot_with.Goals as goal

pub returns-in-Some : goal.returns-in-Some
returns-in-Some c =
    let there = c.in-Some.ensures.lookup in
    slice_get_read c.args.jobs.now _ c.in_ok-slot.field-0.now _ refl there.3.0 there.1 ∙ ap Some (c.same.ensures.0 c.if-same.true)
