use Rattle.std.proofs.Common.{flat_map, length}
use Rattle.std.specs.List.{AllZip}
use Rattle.adr_model.specs.Lists.{In}
use Rattle.adr_lines.specs.declared.indexes.Indexes.{Indexes}
use Rattle.adr_group.specs.Jobs.{IsTaskDone}
use Rattle.adr_schedule.specs.declared.draft.Draft.{Draft}
use Rattle.adr_schedule.specs.Draft.{tasks_of, AreMadeSoFar}
use Rattle.adr_schedule.proofs.made.made_each.Given as goal

-- the drafts that are left are some of all; what is left was done for them, and groups were made of the others
abbrev pub invariant-rest : goal.invariant-rest
invariant-rest l = record {
  own : (d : Draft) → In d l.rest → In d l.drafts;
  made : (indexes : Indexes) → AllZip (IsTaskDone indexes) (flat_map tasks_of l.drafts) l.done
      → AllZip (IsTaskDone indexes) (flat_map tasks_of l.rest) l.left × AreMadeSoFar indexes l.drafts l.rest l.made.groups;
}

abbrev pub decreases-rest : goal.decreases-rest
decreases-rest l = length l.rest
