use Rattle.std.proofs.Common.{◌∙◌, ap, sym, Ok, Err, if◌then◌else◌, arith, to_z-of_z}
use Rattle.jiff_core.proofs.SignedLemmas.{fits_between, signed_arith}
use mir.Syntax.{w128}
use Rattle.adr_refusal.specs.declared.refusal.Refusal.TheVariants.{TimeRange}
use Rattle.adr_time.specs.Calendar.{is_moment}
use Rattle.adr_time.proofs.InvariantLemmas.{range-invariant, either-invariant, moment_after-invariant}
use Rattle.adr_time.proofs.span.after_days.Goals as goal

pub returns-clause-value : goal.returns-clause-value
returns-clause-value c =
    let bound = c.nanoseconds_after.ensures.bound in
    let low = bound.0 in
    let high = bound.1 in
    let fits = fits_between w128 c.nanoseconds_after.result (omega (arith, signed_arith), omega (arith, signed_arith)) in
    c.moment_at.ensures ∙ ap (λ n. if is_moment n then Ok n else Err TimeRange) (to_z-of_z fits ∙ c.nanoseconds_after.ensures.value)
    ∙ sym (moment_after-invariant c.args.start c.args.span.now c.nanoseconds_after.ensures.in_range c.requires)

pub returns-clause-forward : goal.returns-clause-forward
returns-clause-forward c up = range-invariant c.args.start c.args.span.now c.nanoseconds_after.ensures.in_range c.requires

pub returns-clause-either : goal.returns-clause-either
returns-clause-either c = either-invariant c.args.start c.args.span.now c.nanoseconds_after.ensures.in_range c.requires
