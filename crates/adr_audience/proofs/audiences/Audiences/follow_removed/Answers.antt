use Rattle.std.proofs.Common.{IsOk, sym, subst, ◌∙◌}
use Rattle.adr_object.specs.declared.object.Edit.TheVariants.{Remove}
use Rattle.adr_object.specs.declared.object.Kind.TheVariants.{Program as program_kind, Ven as ven_kind}
use Rattle.adr_model.specs.Edits.{made, step}
use Rattle.adr_audience.specs.Keys.{AreKeysOf}
use Rattle.adr_audience.proofs.AskedEdits.{asks_of_removed_program}
use Rattle.adr_audience.proofs.Edited.{rows_of_removed_ven}
use Rattle.adr_audience.proofs.Followed.{removed_is_free}
use Rattle.adr_audience.proofs.audiences.Audiences.follow_removed.Goals as goal

pub returns-in-Program : goal.returns-in-Program
returns-in-Program c =
    let book = c.args.store.now in
    let id = c.args.id.now in
    let free = removed_is_free book program_kind id (subst (λ k. IsOk (step book (Remove k id))) c.in-Program.is c.requires.accepted) in
    subst (λ k. AreKeysOf (made book (Remove k id)) c.args.self.now) (sym c.in-Program.is)
    (c.requires.keys.0, c.requires.keys.1 ∙ sym (asks_of_removed_program book id free))

pub returns-in-Ven : goal.returns-in-Ven
returns-in-Ven c =
    let book = c.args.store.now in
    let id = c.args.id.now in
    let free = removed_is_free book ven_kind id (subst (λ k. IsOk (step book (Remove k id))) c.in-Ven.is c.requires.accepted) in
    subst (λ k. AreKeysOf (made book (Remove k id)) c.args.self.now) (sym c.in-Ven.is)
    (c.requires.keys.0 ∙ sym (rows_of_removed_ven book id free), c.requires.keys.1)
