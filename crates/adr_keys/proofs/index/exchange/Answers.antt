use Rattle.std.proofs.Common.{◌≡◌, ◌&&◌, ◌||◌, [], not, eqb, get_or, set, ap, sym, subst, ◌∙◌}
use Rattle.std.proofs.lemmas.List.{get_or_read}
use Rattle.adr_keys.specs.Rows.{offers_key}
use Rattle.adr_keys.specs.Sets.{holds}
use Rattle.adr_keys.proofs.Indexed.{Indexes, indexed_put}
use Rattle.adr_keys.proofs.index.exchange.Goals as goal

pub put_all-requires : goal.put_all-requires
put_all-requires c = λ k h. c.take_all.ensures.ready k c.args.place ∙ c.requires.ready k h

pub returns-clause-index : goal.returns-clause-index
returns-clause-index c =
    let rows = c.args.rows.now.items in
    let place = c.args.place in
    let row = c.args.row.now in
    let was : c.index.result.now ≡ get_or rows place [] = get_or_read rows place c.index.result.now c.requires.within c.index.ensures [] in
    subst (λ x. Indexes (holds c.put_all.new.self.places) (set rows place x)) (sym c.swap.ensures.x_after)
    (indexed_put (holds c.args.sets.now.places) (holds c.put_all.new.self.places) rows row place c.requires.index c.requires.within
    (λ k p. c.put_all.ensures.places k p ∙ ap (λ b. (offers_key row k && eqb p place) || b) (c.take_all.ensures.places k p ∙ ap (λ xs. not (offers_key xs k && eqb p place) && holds c.args.sets.now.places k p) was)))

pub returns-clause-ready : goal.returns-clause-ready
returns-clause-ready c = λ k p. c.put_all.ensures.ready k p ∙ c.take_all.ensures.ready k p
