use Rattle.std.proofs.Common.{rules, of_calls, ◌≡◌, ◌<◌, ℕ, List, [], filter, get_or, length, ap, subst, ◌∙◌}
use Rattle.std.proofs.lemmas.Fn.{filter_same}
use Rattle.std.specs.List.{range_with_len}
use Rattle.adr_keys.specs.Places.{has}
use Rattle.adr_keys.specs.Rows.{offers_key}
use Rattle.adr_keys.specs.declared.key.Key.{Key}
use Rattle.adr_keys.specs.declared.key.Key.TheVariants.{Ven}
use Rattle.adr_audience.specs.Rows.{is_of_ven}
use Rattle.adr_audience.proofs.OfVen.{own_places}
use Rattle.adr_audience.proofs.vens.places_of_ven.Goals as goal

pub returns-clause-places : goal.returns-clause-places
returns-clause-places c = λ same there.
    let book = c.args.store.now in
    let ven = c.args.ven.now in
    let named = has c.in_ok-named.named in
    filter_same _ (is_of_ven book ven.id) _ (λ p b f h. search (rules, of_calls)) c.in_ok-places.places.items c.retain.new.self.items c.retain.ensures.filtered
    ∙ ap (filter (is_of_ven book ven.id)) (c.in_ok-places.ensures.ok ∙ ap (λ n. filter named (range_with_len 0 n)) (c.len.ensures ∙ ap length same))
    ∙ own_places book ven.id ven there named
    (subst (λ (rows : List (List Key)). (p : ℕ) → p < length rows → named p ≡ offers_key (get_or rows p []) (Ven ven.ven_name)) same c.in_ok-named.ensures.places)
