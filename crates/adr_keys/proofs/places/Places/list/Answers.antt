use Rattle.std.proofs.Common.{◌*◌, ◌<◌, ◌≤◌, length, get_or, ap, ◌∙◌, arith}
use Rattle.std.proofs.lemmas.List.{get_or_read}
use Rattle.adr_keys.proofs.Listing.{words-more, words-all}
use Rattle.adr_keys.proofs.places.Places.list.Goals as goal

pub loop-index-preserved : goal.loop-index-preserved
loop-index-preserved c =
    let ws = c.args.self.now in
    let index = c.loop-index.index in
    let count = c.args.count in
    let items = c.self.inside.words.items in
    let w = c.index.result.now in
    let within : index < length items = omega (arith, c.loop-index-test.true, c.word_count-index-end.ensures.within, ap length c.self.view_is) in
    let here : 64 * index ≤ count = omega (arith, c.loop-index-test.true, c.word_count-index-end.ensures.few) in
    c.in_ok-push_places.ensures.ok
    ∙ words-more ws c.loop-index.list.items index count w c.low_bits.result (get_or_read items index w within c.index.ensures 0 ∙ ap (λ xs. get_or xs index 0) c.self.view_is) c.low_bits.ensures here c.loop-index.invariant

pub returns-clause-ok : goal.returns-clause-ok
returns-clause-ok c =
    c.loop-index.invariant ∙ words-all c.args.self.now (64 * c.loop-index.index) c.args.count (λ p h. c.word_count-index-end.ensures.all p (omega (arith, h, c.loop-index-test.false)))
