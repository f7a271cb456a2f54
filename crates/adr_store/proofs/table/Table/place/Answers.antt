use Rattle.std.proofs.Common.{◌≡◌, ◌∙◌, ℕ, Option, None, Some, ap, is_some, slice_get, subst, sym}
use Rattle.std.specs.Prelude.{IfSome}
use Rattle.std.specs.Map.{values_of}
use Rattle.std.specs.Option.{option_copied}
use Rattle.adr_store.specs.Table.{find_by}
use Rattle.adr_store.proofs.Dense.{place_is_number}
use Rattle.adr_store.proofs.Tables.{none_there, place_there}
use Rattle.adr_store.proofs.table.Table.place.Goals as goal

-- what holds of a place holds of an answer that is this place
told : (r : Option ℕ) (place : ℕ) (P : ℕ → Type 0) → r ≡ Some place → P place → IfSome r P
told None place P e h = absurd (cc)
told (Some n) place P e h = let same : place ≡ n = cc in subst P same h

same_place : (o : Option ℕ) (a b : ℕ) → o ≡ Some a → o ≡ Some b → a ≡ b
same_place o a b e f = cc

pub returns-in-Some-clause-found : goal.returns-in-Some-clause-found
returns-in-Some-clause-found g c =
    let key = g.T.Keyed.key in
    let p = place_there key c.self.inside.rows c.self.inside.numbers c.self.inside.next c.self.invariant.0 c.args.id c.in-Some.number.now (sym c.seek.ensures ∙ ap option_copied c.in-Some.is) in
    sym (ap is_some (ap (λ vs. find_by key vs c.args.id) (sym c.self.view_is)) ∙ p.3)

pub returns-in-Some-clause-value : goal.returns-in-Some-clause-value
returns-in-Some-clause-value g c =
    let key = g.T.Keyed.key in
    let n = c.in-Some.number.now in
    let p = place_there key c.self.inside.rows c.self.inside.numbers c.self.inside.next c.self.invariant.0 c.args.id n (sym c.seek.ensures ∙ ap option_copied c.in-Some.is) in
    let here : p.0 ≡ n = same_place _ p.0 n p.1 (place_is_number c.self.inside.dense c.self.inside.rows c.self.invariant.1 c.self.invariant.0.ordered n c.if-number-self.true) in
    ap (λ vs. slice_get vs n) (sym c.self.view_is) ∙ ap (slice_get (values_of c.self.inside.rows)) (sym here) ∙ p.2 ∙ sym (ap (λ vs. find_by key vs c.args.id) (sym c.self.view_is))

pub returns-in-Some-2-clause-found : goal.returns-in-Some-2-clause-found
returns-in-Some-2-clause-found g c =
    let key = g.T.Keyed.key in
    let p = place_there key c.self.inside.rows c.self.inside.numbers c.self.inside.next c.self.invariant.0 c.args.id c.in-Some.number.now (sym c.seek.ensures ∙ ap option_copied c.in-Some.is) in
    ap is_some (c.place.ensures ∙ p.1) ∙ sym (ap is_some (ap (λ vs. find_by key vs c.args.id) (sym c.self.view_is)) ∙ p.3)

pub returns-in-Some-2-clause-value : goal.returns-in-Some-2-clause-value
returns-in-Some-2-clause-value g c =
    let key = g.T.Keyed.key in
    let p = place_there key c.self.inside.rows c.self.inside.numbers c.self.inside.next c.self.invariant.0 c.args.id c.in-Some.number.now (sym c.seek.ensures ∙ ap option_copied c.in-Some.is) in
    told c.place.result p.0 (λ place. slice_get c.args.self.now place ≡ find_by key c.args.self.now c.args.id) (c.place.ensures ∙ p.1)
    (ap (λ vs. slice_get vs p.0) (sym c.self.view_is) ∙ p.2 ∙ sym (ap (λ vs. find_by key vs c.args.id) (sym c.self.view_is)))

pub returns-in-None-clause-found : goal.returns-in-None-clause-found
returns-in-None-clause-found g c =
    ap is_some
    (sym
    (ap (λ vs. find_by g.T.Keyed.key vs c.args.id) (sym c.self.view_is)
    ∙ none_there g.T.Keyed.key c.self.inside.rows c.self.inside.numbers c.self.inside.next c.self.invariant.0 c.args.id (sym c.seek.ensures ∙ ap option_copied c.in-None.is)))
