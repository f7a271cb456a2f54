use Rattle.std.proofs.Common.{◌≡◌, Ok, subst, sym}
use Rattle.adr_object.specs.declared.object.Edit.{Edit}
use Rattle.adr_model.specs.Edits.{step}
use Rattle.adr_schedule.specs.Seating.{Seating, AreSeatedFor}
use Rattle.adr_regroup.proofs.Programs.{after_create, after_remove}
use Rattle.adr_regroup.proofs.program.after_program.Goals as goal
use Rattle.adr_regroup.specs.Kinds.{kind_of_edit}
use Rattle.adr_object.specs.declared.object.Kind.TheVariants.{Program as program_kind}

pub returns-in_ok-copy-in-Create-clause-seated : goal.returns-in_ok-copy-in-Create-clause-seated
returns-in_ok-copy-in-Create-clause-seated g c =
    let edited = c.args.edited.now in
    subst (λ (s : Seating). AreSeatedFor edited.tie edited.new.now.objects s) (sym c.in_ok-copy-in-Create.ensures)
    (after_create edited.tie edited.old.now.objects edited.new.now.objects c.in-Create.field-0 edited.schedule.now c.book_laws.ensures.whole
    (subst (λ (e : Edit). kind_of_edit e ≡ program_kind) c.in-Create.is c.requires.program)
    (subst (λ (e : Edit). step edited.old.now.objects e ≡ Ok edited.new.now.objects) c.in-Create.is c.requires.edited.accepted) c.requires.edited.seated)

pub returns-in_ok-copy-in-Remove-clause-seated : goal.returns-in_ok-copy-in-Remove-clause-seated
returns-in_ok-copy-in-Remove-clause-seated g c =
    let edited = c.args.edited.now in
    subst (λ (s : Seating). AreSeatedFor edited.tie edited.new.now.objects s) (sym c.in_ok-copy-in-Remove.ensures)
    (after_remove edited.tie edited.old.now.objects edited.new.now.objects c.in-Remove.field-0 c.in-Remove.field-1 edited.schedule.now c.book_laws.ensures.whole
    (subst (λ (e : Edit). kind_of_edit e ≡ program_kind) c.in-Remove.is c.requires.program)
    (subst (λ (e : Edit). step edited.old.now.objects e ≡ Ok edited.new.now.objects) c.in-Remove.is c.requires.edited.accepted) c.requires.edited.seated)
