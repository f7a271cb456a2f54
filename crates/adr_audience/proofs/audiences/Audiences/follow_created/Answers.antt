use Rattle.std.proofs.Common.{◌++◌, ◌∷◌, [], ap, sym, subst, ◌∙◌}
use Rattle.adr_object.specs.declared.object.Edit.TheVariants.{Create}
use Rattle.adr_model.specs.Edits.{made}
use Rattle.adr_audience.specs.Asks.{asked_in, asks_of}
use Rattle.adr_audience.specs.Keys.{AreKeysOf}
use Rattle.adr_audience.specs.Rows.{offered_in, offers_of}
use Rattle.adr_audience.proofs.AskedEdits.{asks_of_created, asks_of_created_program}
use Rattle.adr_audience.proofs.Edited.{rows_of_created, rows_of_created_ven}
use Rattle.adr_audience.proofs.Followed.{on_ok}
use Rattle.adr_audience.proofs.audiences.Audiences.follow_created.Goals as goal

pub returns-in-Program-clause-ok : goal.returns-in-Program-clause-ok
returns-in-Program-clause-ok c =
    let book = c.args.store.now in
    subst (λ o. AreKeysOf (made book (Create o)) c.args.self.now) (sym c.in-Program.is)
    (c.requires.keys.0, c.requires.keys.1 ∙ sym (asks_of_created_program book c.in-Program.field-0 c.requires.whole))

pub returns-in-Event-clause-ok : goal.returns-in-Event-clause-ok
returns-in-Event-clause-ok c =
    let book = c.args.store.now in
    let event = c.in-Event.event in
    let keys = subst (AreKeysOf book) (sym c.self.view_is) c.requires.keys in
    on_ok c.add_event.result
    (λ e. (
      keys.0 ∙ ap (λ o. offers_of (made book (Create o))) (sym c.in-Event.is),
      e ∙ ap (λ x. c.self.inside.events ++ asked_in book x ∷ []) c.get.ensures ∙ ap (λ rows. rows ++ asked_in book event ∷ []) keys.1
          ∙ sym (asks_of_created book event) ∙ ap (λ o. asks_of (made book (Create o))) (sym c.in-Event.is),
    ))
    c.add_event.ensures.ok

pub returns-in-Ven-clause-ok : goal.returns-in-Ven-clause-ok
returns-in-Ven-clause-ok c =
    let book = c.args.store.now in
    subst (λ o. AreKeysOf (made book (Create o)) c.args.self.now) (sym c.in-Ven.is)
    (c.requires.keys.0 ∙ sym (rows_of_created_ven book c.in-Ven.field-0 c.requires.whole), c.requires.keys.1)

pub returns-in-Resource-clause-ok : goal.returns-in-Resource-clause-ok
returns-in-Resource-clause-ok c =
    let book = c.args.store.now in
    let resource = c.in-Resource.resource in
    let keys = subst (AreKeysOf book) (sym c.self.view_is) c.requires.keys in
    on_ok c.add_resource.result
    (λ e. (
      e ∙ ap (λ x. c.self.inside.resources ++ offered_in book x ∷ []) c.get-in-Resource.ensures ∙ ap (λ rows. rows ++ offered_in book resource ∷ []) keys.0
          ∙ sym (rows_of_created book resource) ∙ ap (λ o. offers_of (made book (Create o))) (sym c.in-Resource.is),
      keys.1 ∙ ap (λ o. asks_of (made book (Create o))) (sym c.in-Resource.is),
    ))
    c.add_resource.ensures.ok
