use Rattle.std.proofs.Common.{◌||◌, false, take, ap, sym, ◌∙◌, get_or, []}
use Rattle.adr_keys.specs.Places.{has}
use Rattle.adr_keys.specs.Rows.{offers_key}
use Rattle.std.proofs.lemmas.List.{take_all}
use Rattle.std.specs.Option.{option_map_or}
use Rattle.std.specs.List.{list_any}
use Rattle.adr_audience.specs.Query.{is_offered}
use Rattle.adr_audience.proofs.Queried.{or_false, or_more, any_more}
use Rattle.adr_audience.proofs.query.add_values.Goals as goal

pub loop-value-init : goal.loop-value-init
loop-value-init c = record { places = λ p h. sym (or_false (has c.args.group.now p)); room = λ p h. h }

pub loop-value-preserved : goal.loop-value-preserved
loop-value-preserved c = record {
  places = λ p h.
      let vs = c.args.values.now in
      let i = c.loop-value.value-index in
      let v = c.value-item.result in
      let test = is_offered (offers_key (get_or c.args.index.now p [])) c.args.kind.now in
      c.add_set.ensures.places p (c.loop-value.invariant.room p h) ∙ ap (λ o. has c.loop-value.group p || option_map_or (offers_key (get_or c.args.index.now p [])) o false) c.in_ok-key.ensures
      ∙ ap (λ b. b || test v) (c.loop-value.invariant.places p h) ∙ or_more (has c.args.group.now p) (list_any test (take i vs)) (test v)
      ∙ ap (λ b. has c.args.group.now p || b) (sym (any_more test vs i v c.loop-value-test.true c.value-item.is));
  room = λ p h. c.add_set.ensures.room p ∙ c.loop-value.invariant.room p h;
}

pub returns-clause-ok : goal.returns-clause-ok
returns-clause-ok c = λ p h.
    c.loop-value.invariant.places p h ∙ ap (λ xs. has c.args.group.now p || list_any (is_offered (offers_key (get_or c.args.index.now p [])) c.args.kind.now) xs) (take_all c.loop-value.value-index c.args.values.now c.loop-value-test.false)
