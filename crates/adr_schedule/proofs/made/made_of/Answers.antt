use Rattle.std.proofs.Common.{ap, sym, subst, ◌∙◌}
use Rattle.std.specs.List.{AllZip}
use Rattle.adr_lines.specs.Grouped.{entries_under, HaveOwnTypes}
use Rattle.adr_group.specs.Group.{AreWindowsOf}
use Rattle.adr_group.specs.Jobs.{tasks_for, IsTaskDone}
use Rattle.adr_schedule.proofs.made.made_of.Goals as goal

pub returns-clause-made : goal.returns-clause-made
returns-clause-made c indexes done =
    let draft = c.args.draft.now in
    let same = c.as_slice-windows.ensures.value ∙ ap (λ v. v.items) c.get.ensures in
    record {
      writes = c.in_ok-made.ensures.writes;
      right = λ tie events index windows right. c.in_ok-made.ensures.right indexes
          (subst HaveOwnTypes (sym same) c.requires.own)
          (subst (λ l. AllZip (IsTaskDone indexes) (tasks_for draft.group draft.writes l) c.args.done.now) (sym same) done)
          tie events index
          (subst (λ l. AreWindowsOf events draft.group.writes draft.writes (entries_under l)) (sym same) windows)
          right;
    }
