use Rattle.std.proofs.Common.{◌≡◌, ◌∷◌, [], get_or, length, filter, flat_map, option_to_list, ap, sym, subst, ◌∙◌}
use Rattle.std.specs.List.{range_with_len}
use Rattle.adr_keys.specs.declared.key.Key.TheVariants.{Anyone}
use Rattle.adr_audience.specs.Asks.{shares, number_at, asked_keys, asks_of}
use Rattle.adr_audience.specs.Keys.{AreKeysOf, Keys}
use Rattle.adr_audience.specs.Offers.{offers}
use Rattle.adr_audience.proofs.Numbered.{numbers_found}
use Rattle.adr_audience.proofs.audiences.Audiences.numbers_for.Goals as goal

pub returns-clause-numbers : goal.returns-clause-numbers
returns-clause-numbers c = λ keys.
    let book = c.args.store.now in
    let r = c.args.resource.now in
    let v = c.args.ven.now in
    let rows = c.self.inside.events in
    let own : rows ≡ asks_of book = (subst (AreKeysOf book) (sym c.self.view_is) keys).1 in
    let row = c.keys.ensures ∙ c.requires.asked ∙ ap (λ (k : Keys). asked_keys k.asks (offers r v)) (sym c.self.view_is) in
    c.in_ok-numbers.ensures.ok
    ∙ ap (flat_map (λ p. option_to_list (number_at book r v p))) (c.deref.ensures.value ∙ c.in_ok-places.ensures.ok ∙ ap (λ ks. filter (λ p. shares (get_or rows p []) (Anyone ∷ ks)) (range_with_len 0 (length rows))) row)
    ∙ numbers_found book r v rows own
