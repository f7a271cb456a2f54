use Rattle.std.proofs.Common.{ap, sym, subst, ◌∙◌}
use Rattle.std.proofs.lemmas.Result.{IfOk-weaker}
use Rattle.adr_keys.specs.Rows.{offers_key}
use Rattle.adr_audience.specs.Keys.{AreKeysOf}
use Rattle.adr_audience.specs.Query.{is_for, places_where}
use Rattle.adr_audience.proofs.Applied.{applied}
use Rattle.adr_audience.proofs.audiences.Audiences.resources_for.Goals as goal

pub returns-clause-places : goal.returns-clause-places
returns-clause-places c = λ book whole keys.
    let e = c.args.event.now in
    let p = c.args.program.now in
    let own = subst (AreKeysOf book) (sym c.self.view_is) keys in
    IfOk-weaker c.places_for.result _ _
    (λ places is. is ∙ ap (places_where (λ row. is_for e p (offers_key row))) own.0 ∙ applied book e p whole)
    c.places_for.ensures.ok
