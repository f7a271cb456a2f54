use Rattle.std.proofs.Common.{sym, subst, ◌∙◌}
use Rattle.adr_keys.specs.Places.{before_closing}
use Rattle.adr_keys.specs.Sets.{holds}
use Rattle.adr_keys.proofs.Indexed.{Indexes, indexed_less}
use Rattle.adr_keys.proofs.index.drop_row.Goals as goal

pub returns-clause-index : goal.returns-clause-index
returns-clause-index c =
    let rows = c.args.rows.now.items in
    let place = c.args.place in
    let row = c.remove-row.result in
    subst (λ xs. Indexes (holds c.close.new.self.places) xs) (sym c.remove-row.ensures.items)
    (indexed_less (holds c.args.sets.now.places) (holds c.close.new.self.places) rows row place c.requires.index c.requires.within
    (λ k p. c.close.ensures k p ∙ c.prune_all.ensures k (before_closing place p) ∙ c.take_all.ensures.places k (before_closing place p)))
