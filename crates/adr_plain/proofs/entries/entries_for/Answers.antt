use Rattle.std.proofs.Common.{◌∙◌, sym, ap, arith}
use Rattle.std.specs.Option.{option_copied}
use Rattle.adr_plain.proofs.Applied.{all_applied}
use Rattle.adr_plain.proofs.entries.entries_for.Goals as goal

pub returns-clause-ok : goal.returns-clause-ok
returns-clause-ok c =
    c.loop-place.invariant
    ∙ all_applied c.args.book.now.objects c.args.id.now c.args.payload_type.now c.in-Some.resource.now c.loop-place.place
    (sym c.resource.ensures ∙ ap option_copied c.in-Some.is) (omega (arith, c.count-place-end.ensures.value, c.loop-place-test.false))
