use Rattle.std.proofs.Common.{◌∙◌, ◌∷◌, ◌++◌, [], ap}
use Rattle.adr_store.specs.Table.{find_by}
use Rattle.adr_store.proofs.Dense.{dense_pushed}
use Rattle.adr_store.proofs.Tables.{pushed, pushed_values}
use Rattle.adr_store.proofs.table.Table.with_new.Goals as goal

pub invariant_of-result : goal.invariant_of-result
invariant_of-result g c =
    let key = g.T.Keyed.key in
    rw (c.in_ok-put.ensures, c.in_ok-put-2.ensures, c.in_ok-id.ensures, c.id.ensures, c.dense_with.ensures, c.len.ensures) (
      pushed key c.self.inside.rows c.self.inside.numbers c.self.inside.next c.self.invariant.0 c.args.value
          (ap (λ vs. find_by key vs (key c.args.value)) c.self.view_is ∙ c.requires),
      dense_pushed c.self.inside.dense c.self.inside.next c.self.inside.rows c.args.value c.self.invariant.0.earlier c.self.invariant.1,
    )

pub returns : goal.returns
returns g c =
    rw c.in_ok-put.ensures
    (pushed_values g.T.Keyed.key c.self.inside.rows c.self.inside.numbers c.self.inside.next c.self.invariant.0 c.args.value
    ∙ ap (λ vs. vs ++ c.args.value ∷ []) c.self.view_is)
