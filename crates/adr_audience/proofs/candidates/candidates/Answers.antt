use Rattle.std.proofs.Common.{◌≡◌, ◌||◌, ◌∷◌, [], true, get_or, filter, ap, ◌∙◌, arith}
use Rattle.std.specs.List.{range_with_len}
use Rattle.std.proofs.lemmas.Result.{IfOk-weaker}
use Rattle.adr_keys.specs.declared.key.Key.TheVariants.{Anyone}
use Rattle.adr_keys.specs.Places.{has, fits}
use Rattle.adr_keys.specs.Rows.{offers_key}
use Rattle.adr_audience.specs.Asks.{shares}
use Rattle.adr_audience.proofs.Queried.{filter-range}
use Rattle.adr_audience.proofs.candidates.candidates.Goals as goal

pub returns-clause-ok : goal.returns-clause-ok
returns-clause-ok c =
    let rows = c.args.index.now in
    let keys = c.args.keys.now in
    IfOk-weaker c.list.result _ _
    (λ places is. is
    ∙ filter-range (has c.add_keys.new.found) (λ p. shares (get_or rows p []) (Anyone ∷ keys)) 0 c.len-2.result
    (λ p m. let room : fits c.in_ok-found.found p ≡ true = c.in_ok-found.ensures.room p (omega (arith, c.len.ensures, c.len-2.ensures)) in
    c.add_keys.ensures.places p (c.add_to.ensures.room p ∙ room)
    ∙ ap (λ b. b || shares (get_or rows p []) keys) (c.add_to.ensures.places p room ∙ ap (λ b. b || offers_key (get_or rows p []) Anyone) (c.in_ok-found.ensures.empty p)))
    ∙ ap (λ n. filter (λ p. shares (get_or rows p []) (Anyone ∷ keys)) (range_with_len 0 n)) c.len-2.ensures)
    c.list.ensures.ok
