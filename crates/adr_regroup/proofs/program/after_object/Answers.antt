use Rattle.std.proofs.Common.{◌≡◌, Ok, ap, subst, sym, ◌∙◌}
use Rattle.adr_object.specs.declared.object.Edit.{Edit}
use Rattle.adr_object.specs.declared.object.Object.TheVariants.{Program as program_object}
use Rattle.adr_object.specs.declared.object.Edit.TheVariants.{Change}
use Rattle.adr_model.specs.Edits.{step}
use Rattle.adr_model.proofs.EditLemmas.{accepted}
use Rattle.adr_regroup.proofs.Programs.{program_there}
use Rattle.adr_regroup.proofs.program.after_object.Goals as goal

pub after_change-requires-clause-there : goal.after_change-requires-clause-there
after_change-requires-clause-there g c =
    let edited = c.args.edited.now in
    let old = edited.old.now.objects in
    let new = edited.new.now.objects in
    let program = c.in-Program.program in
    rw c.get-program.ensures
    (program_there old program
    (accepted old new (Change (program_object program)) (subst (λ (e : Edit). step old e ≡ Ok new) (c.requires.change ∙ ap Change c.in-Program.is) c.requires.edited.accepted)).0)

pub after_change-requires-clause-made : goal.after_change-requires-clause-made
after_change-requires-clause-made g c =
    let edited = c.args.edited.now in
    let old = edited.old.now.objects in
    let new = edited.new.now.objects in
    let program = c.in-Program.program in
    rw c.get-program.ensures
    (sym (accepted old new (Change (program_object program)) (subst (λ (e : Edit). step old e ≡ Ok new) (c.requires.change ∙ ap Change c.in-Program.is) c.requires.edited.accepted)).1)
