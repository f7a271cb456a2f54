use Rattle.std.proofs.Common.{◌≡◌, ◌∙◌, IsOk, Result, Ok, Err, OnOk, subst, ap, sym}
use Rattle.adr_refusal.specs.declared.refusal.Refusal.{Refusal}
use Rattle.adr_object.specs.declared.object.Edit.{Edit}
use Rattle.adr_object.specs.declared.object.Edit.TheVariants.{Create, Change, Remove}
use Rattle.adr_model.specs.Book.{Book}
use Rattle.adr_model.specs.Edits.{step, made}
use Rattle.adr_store.proofs.Accepted.{made_is, room_to_remove}
use Rattle.adr_store.proofs.store.Store.make.Goals as goal

-- the book with the edit made is the next one
next : (old new : Book) (x y : Edit) → IsOk (step old x) → x ≡ y → new ≡ made old y → step old x ≡ Ok new
next old new x y h e m = made_is old x h ∙ ap (λ z. Ok (made old z)) e ∙ ap (λ b. Ok b) (sym m)

on_ok : {P Q : Type 0} (r : Result (Unit {0}) Refusal) → (P → Q) → OnOk r P → OnOk r Q
on_ok (Ok v) f h = f h
on_ok (Err e) f h = h

pub remove-requires-clause-room : goal.remove-requires-clause-room
remove-requires-clause-room c =
    room_to_remove c.args.self.now c.in-Remove.kind c.in-Remove.id (subst (λ x. IsOk (step c.args.self.now x)) c.in-Remove.is c.requires.accepted)

pub returns-in-Create-clause-ok : goal.returns-in-Create-clause-ok
returns-in-Create-clause-ok c =
    on_ok c.create.result (next c.args.self.now c.create.new.self c.args.edit (Create c.in-Create.object) c.requires.accepted c.in-Create.is) c.create.ensures.ok

pub returns-in-Change-clause-ok : goal.returns-in-Change-clause-ok
returns-in-Change-clause-ok c =
    on_ok c.change.result (next c.args.self.now c.change.new.self c.args.edit (Change c.in-Change.object) c.requires.accepted c.in-Change.is) c.change.ensures.ok

pub returns-in-Remove-clause-ok : goal.returns-in-Remove-clause-ok
returns-in-Remove-clause-ok c =
    on_ok c.remove.result (next c.args.self.now c.remove.new.self c.args.edit (Remove c.in-Remove.kind c.in-Remove.id) c.requires.accepted c.in-Remove.is) c.remove.ensures.ok
