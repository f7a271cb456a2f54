use Rattle.std.proofs.Common.{◌∙◌, ap, sym}
use Rattle.std.specs.Option.{option_copied}
use Rattle.adr_store.specs.Table.{find_by}
use Rattle.adr_store.proofs.Tables.{value_there, none_there}
use Rattle.adr_store.proofs.table.Table.get.Goals as goal

pub returns-in-Some-clause-value : goal.returns-in-Some-clause-value
returns-in-Some-clause-value g c =
    c.get-in-Some.ensures
    ∙ value_there g.T.Keyed.key c.self.inside.rows c.self.inside.numbers c.self.inside.next c.self.invariant.0 c.args.id.now c.in-Some.number.now (sym c.get.ensures ∙ ap option_copied c.in-Some.is)
    ∙ ap (λ vs. find_by g.T.Keyed.key vs c.args.id.now) c.self.view_is

pub returns-in-None-clause-value : goal.returns-in-None-clause-value
returns-in-None-clause-value g c =
    sym
    (ap (λ vs. find_by g.T.Keyed.key vs c.args.id.now) (sym c.self.view_is)
    ∙ none_there g.T.Keyed.key c.self.inside.rows c.self.inside.numbers c.self.inside.next c.self.invariant.0 c.args.id.now (sym c.get.ensures ∙ ap option_copied c.in-None.is))
