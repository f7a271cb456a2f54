use Rattle.std.proofs.Common.{◌∙◌, ap, sym, subst}
use Rattle.std.specs.Option.{option_copied}
use Rattle.adr_refusal.specs.Copy.{IsCopyOf}
use Rattle.adr_store.specs.Table.{find_by, without}
use Rattle.adr_store.proofs.Tables.{taken, taken_values, none_there}
use Rattle.adr_store.proofs.Dense.{dense_taken}
use Rattle.adr_store.proofs.Found.{without_none}
use Rattle.adr_store.proofs.table.Table.without.Goals as goal

pub invariant_of-result : goal.invariant_of-result
invariant_of-result g c =
    rw (c.in_ok-without-in-Some.ensures, c.in_ok-without-in-Some-2.ensures, c.min.ensures) (
      taken g.T.Keyed.key c.self.inside.rows c.self.inside.numbers c.self.inside.next c.self.invariant.0 c.args.id.now c.in-Some.number.now (sym c.get.ensures ∙ ap option_copied c.in-Some.is),
      dense_taken c.self.inside.dense c.in-Some.number.now c.self.inside.rows c.self.invariant.0.ordered c.self.invariant.1,
    )

pub returns-in_ok-without-in-Some-2 : goal.returns-in_ok-without-in-Some-2
returns-in_ok-without-in-Some-2 g c =
    rw c.in_ok-without-in-Some.ensures
    (taken_values g.T.Keyed.key c.self.inside.rows c.self.inside.numbers c.self.inside.next c.self.invariant.0 c.args.id.now c.in-Some.number.now (sym c.get.ensures ∙ ap option_copied c.in-Some.is)
    ∙ ap (λ vs. without g.T.Keyed.key vs c.args.id.now) c.self.view_is)

pub returns-in-None : goal.returns-in-None
returns-in-None g c =
    let none = ap (λ vs. find_by g.T.Keyed.key vs c.args.id.now) (sym c.self.view_is)
    ∙ none_there g.T.Keyed.key c.self.inside.rows c.self.inside.numbers c.self.inside.next c.self.invariant.0 c.args.id.now (sym c.get.ensures ∙ ap option_copied c.in-None.is) in
    subst (λ vs. IsCopyOf c.copy.result vs) (sym (without_none g.T.Keyed.key c.args.id.now c.args.self.now none)) c.copy.ensures
