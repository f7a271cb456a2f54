use Rattle.std.proofs.Common.{◌≡◌, List, ap, sym, ◌∙◌}
use Rattle.std.specs.Option.{option_copied}
use Rattle.adr_keys.specs.declared.key.Key.{Key}
use Rattle.adr_audience.specs.Asks.{asked_keys, asks_of}
use Rattle.adr_audience.specs.Offers.{offers}
use Rattle.adr_regroup.proofs.Reseated.{no_ven, written_at_place}
use Rattle.adr_regroup.proofs.reseat.seen_at.Goals as goal

pub unreachable-requires-in_default-ven : goal.unreachable-requires-in_default-ven
unreachable-requires-in_default-ven c =
    no_ven c.args.basis.now.new.now.objects c.args.place c.in-Some.resource.now c.book_laws.ensures.whole (sym c.resource_at.ensures ∙ ap option_copied c.in-Some.is)
    (sym c.ven.ensures ∙ ap option_copied c.in_default-ven.is)

pub returns-clause-writes : goal.returns-clause-writes
returns-clause-writes c =
    let basis = c.args.basis.now in
    let old = basis.old.now.objects in
    let r = c.in-Some.resource.now in
    let v = c.in-Some-ven.ven.now in
    let same : asked_keys (asks_of old) (offers r v) ≡ c.in_ok-seen.seen.asked =
    ap (λ (rows : List (List Key)). asked_keys rows (offers r v)) (sym c.requires.basis.keys.1) ∙ sym c.in_ok-asked.ensures ∙ sym c.in_ok-seen.ensures.asked in
    written_at_place old basis.new.now.objects c.args.place r v c.in_ok-seen.seen.writes c.requires.basis.kept (sym c.resource_at.ensures ∙ ap option_copied c.in-Some.is)
    (sym c.ven.ensures ∙ ap option_copied c.in-Some-ven.is) (c.in_ok-seen.ensures.seen r v same)
