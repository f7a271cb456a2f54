use Rattle.std.proofs.Common.{rules, ◌+◌, ◌-◌, ◌<◌, arith, length}
use Rattle.adr_index.proofs.ByEnd.{by_end_fits, outlasts_read, outlasted_read}
use Rattle.adr_index.proofs.by_end.fits.Goals.{else-place-gt0-via-then-place-gt0+else-not-is_from, else-place-gt0-via-else-place-gt0}
use Rattle.adr_index.proofs.by_end.fits.Goals as goal

pub returns-then-place-entries : goal.returns-then-place-entries
returns-then-place-entries c =
    let es = c.args.entries.now in
    let e = c.index-entries-place.result in
    λ _. by_end_fits es c.args.place e c.requires.within c.index-entries-place.is
    (elim c.else-place-gt0.branch [
      | else-place-gt0-via-then-place-gt0+else-not-is_from w ↦ λ some. outlasts_read es (c.args.place - 1) w.index-entries-place-then-place-gt0.result e e c.of-reach.result w.of.result (omega (arith, some, c.requires.within)) w.index-entries-place-then-place-gt0.is w.of.ensures c.of-reach.ensures (w.is_from.ensures (search rules))
      | else-place-gt0-via-else-place-gt0 w ↦ λ some. absurd (omega (arith, some, w.if-place-gt0.false))
    ])
    (λ more. absurd (omega (arith, more, c.if-place-entries.true)))

pub returns-else-place-entries : goal.returns-else-place-entries
returns-else-place-entries c =
    let es = c.args.entries.now in
    let e = c.index-entries-place.result in
    λ h. by_end_fits es c.args.place e c.requires.within c.index-entries-place.is
    (elim c.else-place-gt0.branch [
      | else-place-gt0-via-then-place-gt0+else-not-is_from w ↦ λ some. outlasts_read es (c.args.place - 1) w.index-entries-place-then-place-gt0.result e e c.of-reach.result w.of.result (omega (arith, some, c.requires.within)) w.index-entries-place-then-place-gt0.is w.of.ensures c.of-reach.ensures (w.is_from.ensures (search rules))
      | else-place-gt0-via-else-place-gt0 w ↦ λ some. absurd (omega (arith, some, w.if-place-gt0.false))
    ])
    (λ more. outlasted_read es (c.args.place + 1) c.index-entries-place-else-place-entries.result e e c.of-reach.result c.of-else-place-entries.result more c.index-entries-place-else-place-entries.is c.of-else-place-entries.ensures c.of-reach.ensures (c.is_from-else-place-entries.ensures h))
