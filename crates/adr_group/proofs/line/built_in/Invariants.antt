use Rattle.std.proofs.Common.{◌≡◌, ◌+◌, ◌≤◌, ℤ, None, true, if◌then◌else◌, length}
use Rattle.adr_model.specs.Governor.{winner_at}
use Rattle.adr_model.specs.Timeline.{shows}
use Rattle.adr_timeline.specs.Build.{most_compared_all}
use Rattle.adr_timeline.specs.Windows.{all_last, any_covers}
use Rattle.adr_group.specs.Repair.{given_entries}
use Rattle.adr_group.proofs.line.built_in.Given as goal

-- the spans that are left make of it what all spans make of nothing
abbrev pub invariant-rest : goal.invariant-rest
invariant-rest l = record {
  last : all_last l.rest ≡ true;
  shown : (t : ℤ)
      → (if any_covers l.rest t then winner_at (given_entries l.given) t else shows l.inner t)
      ≡ (if any_covers l.spans t then winner_at (given_entries l.given) t else None);
  compared : l.meter + most_compared_all (given_entries l.given) l.rest ≤ l.fn.meter + most_compared_all (given_entries l.given) l.spans;
}

abbrev pub decreases-rest : goal.decreases-rest
decreases-rest l = length l.rest
