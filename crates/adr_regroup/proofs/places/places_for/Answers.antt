use Rattle.std.proofs.Common.{◌≡◌, ℕ, List, [], IsOk, length, is_some, ap, subst, sym, ◌∙◌}
use Rattle.adr_object.specs.declared.object.Edit.{Edit}
use Rattle.adr_model.specs.Book.{ven_by}
use Rattle.adr_model.specs.Edits.{step}
use Rattle.adr_regroup.specs.Party.{id_of_edit, AreOfVen}
use Rattle.adr_regroup.proofs.PartyEdits.{none_comes, none_goes, ven_changes}
use Rattle.adr_regroup.proofs.places.places_for.Goals as goal
use Rattle.adr_regroup.specs.Kinds.{kind_of_edit}
use Rattle.adr_object.specs.declared.object.Kind.TheVariants.{Ven as ven_kind}

pub returns-in-Create-clause-places : goal.returns-in-Create-clause-places
returns-in-Create-clause-places c =
    let book = c.args.book.now.objects in
    subst (λ (ps : List ℕ). AreOfVen book (id_of_edit c.args.edit.now) (length book.resources) ps) (sym c.new.ensures.items)
    (subst (λ (e : Edit). AreOfVen book (id_of_edit e) (length book.resources) []) (sym c.in-Create.is)
    (none_comes book c.in-Create.field-0 c.book_laws.ensures.whole (subst (λ (e : Edit). kind_of_edit e ≡ ven_kind) c.in-Create.is c.requires.ven)
    (subst (λ (e : Edit). IsOk (step book e)) c.in-Create.is c.requires.accepted)))

pub returns-in-Remove-clause-places : goal.returns-in-Remove-clause-places
returns-in-Remove-clause-places c =
    let book = c.args.book.now.objects in
    subst (λ (ps : List ℕ). AreOfVen book (id_of_edit c.args.edit.now) (length book.resources) ps) (sym c.new-in-Remove.ensures.items)
    (subst (λ (e : Edit). AreOfVen book (id_of_edit e) (length book.resources) []) (sym c.in-Remove.is)
    (none_goes book c.in-Remove.field-0 c.in-Remove.field-1 (subst (λ (e : Edit). kind_of_edit e ≡ ven_kind) c.in-Remove.is c.requires.ven)
    (subst (λ (e : Edit). IsOk (step book e)) c.in-Remove.is c.requires.accepted)))

pub returns-in_ok-places-in-Change-clause-places : goal.returns-in_ok-places-in-Change-clause-places
returns-in_ok-places-in-Change-clause-places c =
    rw (c.in-Change.is) (rw (c.id.ensures) at c.in_ok-places-in-Change.ensures.places)

pub places_of-requires : goal.places_of-requires
places_of-requires c =
    let book = c.args.book.now.objects in
    record {
      there = ap (λ i. is_some (ven_by book i)) c.id.ensures
          ∙ ven_changes book c.in-Change.object (subst (λ (e : Edit). kind_of_edit e ≡ ven_kind) c.in-Change.is c.requires.ven) (subst (λ (e : Edit). IsOk (step book e)) c.in-Change.is c.requires.accepted);
      keys = c.requires.keys;
    }
