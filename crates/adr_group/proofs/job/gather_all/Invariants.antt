use Rattle.std.proofs.Common.{◌++◌, length}
use Rattle.adr_lines.specs.Grouped.{HaveOwnTypes}
use Rattle.adr_group.specs.Jobs.{AreAlike}
use Rattle.adr_group.proofs.job.gather_all.Given as goal

-- each type was gathered once, and what is gathered, with the windows that are left, is all
abbrev pub invariant-rest : goal.invariant-rest
invariant-rest l = record {
  own : HaveOwnTypes l.types.items;
  alike : AreAlike (l.types.items ++ l.rest) (l.fn.types.items ++ l.windows);
}

abbrev pub decreases-rest : goal.decreases-rest
decreases-rest l = length l.rest
