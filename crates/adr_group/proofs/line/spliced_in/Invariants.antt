use Rattle.std.proofs.Common.{◌≡◌, ℤ, true, if◌then◌else◌, length}
use Rattle.adr_model.specs.Timeline.{shows}
use Rattle.adr_timeline.specs.Windows.{all_last, any_covers}
use Rattle.adr_group.proofs.line.spliced_in.Given as goal

-- the spans that are left make of it what all spans make of the line
abbrev pub invariant-rest : goal.invariant-rest
invariant-rest l = record {
  last : all_last l.rest ≡ true;
  shown : (t : ℤ)
      → (if any_covers l.rest t then shows l.inner t else shows l.shown t)
      ≡ (if any_covers l.spans t then shows l.inner t else shows l.line t);
}

abbrev pub decreases-rest : goal.decreases-rest
decreases-rest l = length l.rest
