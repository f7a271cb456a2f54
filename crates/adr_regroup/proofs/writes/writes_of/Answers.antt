use Rattle.std.proofs.Common.{◌≡◌, List, refl, ap, sym, ◌∙◌}
use Rattle.std.specs.Option.{option_copied}
use Rattle.adr_keys.specs.declared.key.Key.{Key}
use Rattle.adr_audience.specs.Asks.{asked_keys, asks_of}
use Rattle.adr_audience.specs.Offers.{offers}
use Rattle.adr_regroup.proofs.Reseated.{no_ven, written_at_place}
use Rattle.adr_regroup.proofs.writes.writes_of.Goals as goal

pub unreachable-requires-in_default-ven : goal.unreachable-requires-in_default-ven
unreachable-requires-in_default-ven c =
    no_ven c.args.book.now.objects c.args.place c.in-Some.resource.now c.book_laws.ensures.whole (sym c.resource_at.ensures ∙ ap option_copied c.in-Some.is)
    (sym c.ven.ensures ∙ ap option_copied c.in_default-ven.is)

pub returns-clause-writes : goal.returns-clause-writes
returns-clause-writes c =
    let book = c.args.book.now.objects in
    let r = c.in-Some.resource.now in
    let v = c.in-Some-ven.ven.now in
    let same : asked_keys (asks_of book) (offers r v) ≡ c.in_ok-asked.asked =
    ap (λ (rows : List (List Key)). asked_keys rows (offers r v)) (sym c.requires.keys.1) ∙ sym c.in_ok-asked.ensures in
    written_at_place book book c.args.place r v c.in_ok-writes.writes (record { events = refl; programs = refl }) (sym c.resource_at.ensures ∙ ap option_copied c.in-Some.is)
    (sym c.ven.ensures ∙ ap option_copied c.in-Some-ven.is) (c.in_ok-writes.ensures.writes r v same)
