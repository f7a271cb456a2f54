use Rattle.std.proofs.Common.{IsOk, ap, sym, subst, ◌∙◌}
use Rattle.adr_object.specs.declared.object.Edit.TheVariants.{Change}
use Rattle.adr_object.specs.declared.object.Object.TheVariants.{Program as program_object, Ven as ven_object}
use Rattle.adr_model.specs.Edits.{made, step}
use Rattle.adr_audience.specs.Asks.{asks_of, with_program}
use Rattle.adr_audience.specs.Keys.{AreKeysOf}
use Rattle.adr_audience.specs.Rows.{offers_of, with_ven}
use Rattle.adr_audience.proofs.AskedEdits.{asks_of_changed_program}
use Rattle.adr_audience.proofs.Edited.{rows_of_changed_ven}
use Rattle.adr_audience.proofs.Followed.{on_ok, changed_is_there}
use Rattle.adr_audience.proofs.audiences.Audiences.follow_changed.Goals as goal

pub returns-in-Program-clause-ok : goal.returns-in-Program-clause-ok
returns-in-Program-clause-ok c =
    let book = c.args.store.now in
    let program = c.in-Program.program in
    let keys = subst (AreKeysOf book) (sym c.self.view_is) c.requires.keys in
    let there = changed_is_there book (program_object program) (subst (λ o. IsOk (step book (Change o))) c.in-Program.is c.requires.accepted) in
    on_ok c.follow_program.result
    (λ e. (
      keys.0 ∙ ap (λ o. offers_of (made book (Change o))) (sym c.in-Program.is),
      e ∙ ap (λ p. with_program p book.events c.self.inside.events) c.get.ensures ∙ ap (with_program program book.events) keys.1
          ∙ sym (asks_of_changed_program book program there) ∙ ap (λ o. asks_of (made book (Change o))) (sym c.in-Program.is),
    ))
    c.follow_program.ensures.ok

pub returns-in-Ven-clause-ok : goal.returns-in-Ven-clause-ok
returns-in-Ven-clause-ok c =
    let book = c.args.store.now in
    let ven = c.in-Ven.ven in
    let keys = subst (AreKeysOf book) (sym c.self.view_is) c.requires.keys in
    let there = changed_is_there book (ven_object ven) (subst (λ o. IsOk (step book (Change o))) c.in-Ven.is c.requires.accepted) in
    on_ok c.follow_ven.result
    (λ e. (
      e ∙ ap (λ v. with_ven v book.resources c.self.inside.resources) c.get-in-Ven.ensures ∙ ap (with_ven ven book.resources) keys.0
          ∙ sym (rows_of_changed_ven book ven there) ∙ ap (λ o. offers_of (made book (Change o))) (sym c.in-Ven.is),
      keys.1 ∙ ap (λ o. asks_of (made book (Change o))) (sym c.in-Ven.is),
    ))
    c.follow_ven.ensures.ok
