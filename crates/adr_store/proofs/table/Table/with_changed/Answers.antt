use Rattle.std.proofs.Common.{◌≡◌, ◌∙◌, ap, sym, Option, None, Some}
use Rattle.std.specs.Prelude.{IsSome}
use Rattle.std.specs.Option.{option_copied}
use Rattle.adr_shared.specs.Map.{lookup}
use Rattle.adr_store.specs.Table.{find_by, put_by}
use Rattle.adr_store.proofs.Tables.{changed, changed_dense, changed_values, none_there}
use Rattle.adr_store.proofs.table.Table.with_changed.Goals as goal

-- what is there isn't absent
there : {T : Type 0} (o : Option T) → o ≡ None → IsSome o → ⊥
there None e h = absurd (cc)
there (Some x) e h = absurd (cc)

pub unreachable-requires : goal.unreachable-requires
unreachable-requires g c =
    let key = g.T.Keyed.key in
    there (find_by key c.args.self.now (key c.args.value))
    (ap (λ vs. find_by key vs (key c.args.value)) (sym c.self.view_is)
    ∙ none_there key c.self.inside.rows c.self.inside.numbers c.self.inside.next c.self.invariant.0 (key c.args.value)
    (ap (λ id. lookup id c.self.inside.numbers) (sym c.id.ensures) ∙ sym c.get.ensures ∙ ap option_copied c.in_default.is))
    c.requires

pub invariant_of-result : goal.invariant_of-result
invariant_of-result g c =
    let key = g.T.Keyed.key in
    let there = ap (λ id. lookup id c.self.inside.numbers) (sym c.id.ensures) ∙ sym c.get.ensures ∙ ap option_copied c.in-Some.is in
    rw (c.in_ok-put.ensures, c.in_ok-copy.ensures) (
      changed key c.self.inside.rows c.self.inside.numbers c.self.inside.next c.self.invariant.0 c.args.value c.in-Some.number.now there,
      changed_dense key c.self.inside.rows c.self.inside.numbers c.self.inside.next c.self.invariant.0 c.args.value c.in-Some.number.now there c.self.inside.dense c.self.invariant.1,
    )

pub returns : goal.returns
returns g c =
    let key = g.T.Keyed.key in
    rw c.in_ok-put.ensures
    (changed_values key c.self.inside.rows c.self.inside.numbers c.self.inside.next c.self.invariant.0 c.args.value c.in-Some.number.now
    (ap (λ id. lookup id c.self.inside.numbers) (sym c.id.ensures) ∙ sym c.get.ensures ∙ ap option_copied c.in-Some.is)
    ∙ ap (λ vs. put_by key vs c.args.value) c.self.view_is)
