use Rattle.std.proofs.Common.{◌≡◌, true, ◌∙◌}
use Rattle.adr_keys.specs.Sets.{is_ready}
use Rattle.adr_keys.proofs.Held.{ready_more}
use Rattle.adr_keys.proofs.sets.Sets.reserve_all.Goals as goal

pub loop-key-preserved : goal.loop-key-preserved
loop-key-preserved c =
    let key = c.key-item.result in
    let items = c.keys-key-items.result.now in
    let now = c.reserve.new.self.places in
    record {
      places = λ k p. c.in_ok-reserve.ensures.same k p ∙ c.loop-key.invariant.places k p;
      ready = ready_more items c.loop-key.key-index key (λ k. is_ready now k c.args.place ≡ true) c.loop-key-test.true c.key-item.is
          (λ k h. c.in_ok-reserve.ensures.kept k c.args.place (c.loop-key.invariant.ready k h)) c.in_ok-reserve.ensures.ok;
      kept = λ k p h. c.in_ok-reserve.ensures.kept k p (c.loop-key.invariant.kept k p h);
    }
