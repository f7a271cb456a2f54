use Rattle.std.proofs.Common.{◌≡◌, ◌<◌, [], None, length, get_or, ap, ◌∙◌, arith}
use Rattle.std.specs.Option.{unwrap_or}
use Rattle.std.proofs.lemmas.List.{get_or_read, length-set, get_or-set_other}
use Rattle.adr_keys.proofs.Renewed.{renewed-next, renewed-all}
use Rattle.adr_keys.proofs.index.exchange_all.Goals as goal

pub loop-place-preserved : goal.loop-place-preserved
loop-place-preserved c =
    let p = c.loop-place.place in
    let old = c.args.rows.now.items in
    let now = c.loop-place.rows.items in
    let fresh = c.loop-place.fresh.items in
    let row = c.index_mut.result.now in
    let e = c.exchange_fresh.ensures.rows in
    let within : p < length old = omega (arith, c.len-place-end.ensures, c.loop-place-test.true) in
    let many : p < length fresh = omega (arith, within, c.loop-place.invariant.count, c.requires.count) in
    let is : row ≡ get_or c.args.fresh.now.items p None = get_or_read fresh p row many c.index_mut.ensures.value None ∙ c.loop-place.invariant.fresh p (omega arith) in
    record {
      len = ap length e ∙ length-set now p (unwrap_or row (get_or now p [])) ∙ c.loop-place.invariant.len;
      count = length-set fresh p c.exchange_fresh.new.row ∙ c.loop-place.invariant.count;
      rows = λ q. ap (λ xs. get_or xs q []) e ∙ renewed-next c.args.fresh.now.items old c.requires.count now row p c.loop-place.invariant.len within is c.loop-place.invariant.rows q;
      fresh = λ q l. get_or-set_other fresh p q c.exchange_fresh.new.row None (λ z. omega arith) ∙ c.loop-place.invariant.fresh q (omega arith);
      index = c.exchange_fresh.ensures.index;
      ready = λ k q. c.exchange_fresh.ensures.ready k q ∙ c.loop-place.invariant.ready k q;
    }

pub returns-clause-rows : goal.returns-clause-rows
returns-clause-rows c =
    renewed-all c.args.fresh.now.items c.args.rows.now.items c.requires.count c.loop-place.rows.items c.loop-place.place c.loop-place.invariant.len
    (omega (arith, c.len-place-end.ensures, c.loop-place-test.false)) c.loop-place.invariant.rows
