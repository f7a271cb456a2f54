use Rattle.std.proofs.Common.{ap, sym, ◌∙◌}
use Rattle.adr_keys.specs.Rows.{offers_key}
use Rattle.adr_keys.proofs.Held.{offered_at}
use Rattle.adr_keys.proofs.sets.Sets.put_all.Goals as goal

pub put-requires : goal.put-requires
put-requires c =
    let key = c.key-item.result in
    c.loop-key.invariant.ready key c.args.place
    ∙ c.requires key (ap (λ xs. offers_key xs key) (sym c.keys-key-items.ensures) ∙ offered_at c.keys-key-items.result.now c.loop-key.key-index key c.loop-key-test.true c.key-item.is)
