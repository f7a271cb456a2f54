use Rattle.std.proofs.Common.{◌||◌, [], get_or, take, refl, ap, sym, ◌∙◌}
use Rattle.std.proofs.lemmas.List.{take_all}
use Rattle.adr_keys.specs.Places.{has}
use Rattle.adr_keys.specs.Rows.{offers_key}
use Rattle.adr_audience.specs.Asks.{shares}
use Rattle.adr_audience.proofs.Queried.{or_false, or_more, any_more}
use Rattle.adr_audience.proofs.candidates.add_keys.Goals as goal

pub loop-key-init : goal.loop-key-init
loop-key-init c = record { places = λ p h. sym (or_false (has c.args.found.now p)); room = λ p. refl }

pub loop-key-preserved : goal.loop-key-preserved
loop-key-preserved c = record {
  places = λ p h.
      let ks = c.args.keys.now in
      let i = c.loop-key.key-index in
      let k = c.key-item.result in
      let test = offers_key (get_or c.args.index.now p []) in
      c.add_to.ensures.places p (c.loop-key.invariant.room p ∙ h)
      ∙ ap (λ b. b || test k) (c.loop-key.invariant.places p h) ∙ or_more (has c.args.found.now p) (shares (get_or c.args.index.now p []) (take i ks)) (test k)
      ∙ ap (λ b. has c.args.found.now p || b) (sym (any_more test ks i k c.loop-key-test.true c.key-item.is));
  room = λ p. c.add_to.ensures.room p ∙ c.loop-key.invariant.room p;
}

pub returns-clause-places : goal.returns-clause-places
returns-clause-places c = λ p h.
    c.loop-key.invariant.places p h ∙ ap (λ xs. has c.args.found.now p || shares (get_or c.args.index.now p []) xs) (take_all c.loop-key.key-index c.args.keys.now c.loop-key-test.false)
