use Rattle.std.proofs.Common.{◌&&◌, ◌||◌, ap, sym, ◌∙◌, arith, get_or, []}
use Rattle.adr_keys.specs.Rows.{offers_key}
use Rattle.std.proofs.Common.{bytes_eq}
use Rattle.std.proofs.lemmas.List.{take_all}
use Rattle.adr_object.specs.declared.event.Target.{Target}
use Rattle.std.specs.List.{list_any}
use Rattle.adr_audience.specs.Query.{is_offered}
use Rattle.adr_audience.proofs.Queried.{any_more}
use Rattle.adr_audience.proofs.query.gathered.Goals as goal

pub loop-other-init : goal.loop-other-init
loop-other-init c = record { places = λ p h. c.in_ok-group.ensures.empty p; room = λ p h. c.in_ok-group.ensures.room p (omega arith) }

pub loop-other-preserved : goal.loop-other-preserved
loop-other-preserved c = record {
  places = λ p h.
      let ts = c.args.targets.now in
      let i = c.loop-other.other-index in
      let t = c.other-item.result in
      let test = λ (u : Target). bytes_eq u.kind c.args.kind.now && list_any (is_offered (offers_key (get_or c.args.index.now p [])) c.args.kind.now) u.values in
      c.in_ok-add_map.ensures.ok p (c.loop-other.invariant.room p h) ∙ ap (λ b. b || test t) (c.loop-other.invariant.places p h)
      ∙ sym (any_more test ts i t c.loop-other-test.true c.other-item.is);
  room = λ p h. c.in_ok-add_map.ensures.room p (c.loop-other.invariant.room p h);
}

pub returns-clause-ok : goal.returns-clause-ok
returns-clause-ok c = λ p h.
    let ts = c.args.targets.now in
    let test = λ (u : Target). bytes_eq u.kind c.args.kind.now && list_any (is_offered (offers_key (get_or c.args.index.now p [])) c.args.kind.now) u.values in
    c.loop-other.invariant.places p h ∙ ap (list_any test) (take_all c.loop-other.other-index ts c.loop-other-test.false)
