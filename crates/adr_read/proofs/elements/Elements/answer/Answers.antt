use Rattle.std.proofs.Common.{◌∙◌}
use Rattle.std.specs.Prelude.{pos}
use Rattle.std.proofs.lemmas.Result.{err_from_is_err_and}
use Rattle.adr_read.proofs.ListLaws.{list_given, list_refused}
use Rattle.adr_read.proofs.elements.Elements.answer.Goals as goal

pub returns : goal.returns
returns g c moment ds so_far =
    let self = c.args.self in
    let value = c.in_ok-items.ensures.value in
    list_given g.row.LIMIT g.T.Read.faults (λ n. g.T.Read.stands_for (record { moment = moment; place = pos n })) c.args.items self.count self.faults ds so_far c.shrink_to_fit.new.self (c.shrink_to_fit.ensures ∙ value.0) value.1

pub returns-in_err-items : goal.returns-in_err-items
returns-in_err-items g c moment ds so_far =
    let self = c.args.self in
    let out = err_from_is_err_and c.from_residual.result c.from_residual.ensures.1 in
    rw (out.1, out.2) (list_refused g.row.LIMIT g.T.Read.faults (λ n. g.T.Read.stands_for (record { moment = moment; place = pos n })) c.args.items self.count self.faults ds so_far c.in_err-items.field-0.0 c.in_err-items.ensures.refused)
