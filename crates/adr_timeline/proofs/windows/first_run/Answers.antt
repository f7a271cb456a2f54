use Rattle.std.proofs.Common.{◌≡◌, ◌+◌, length, ap, sym, ◌∙◌, take, arith}
use Rattle.adr_timeline.specs.Windows.{are_apart}
use Rattle.adr_timeline.proofs.Taken.{more_apart, none_behind, none_more, one_apart}
use Rattle.adr_timeline.proofs.windows.first_run.Goals as goal

pub returns-then-not-lasts-clause-apart : goal.returns-then-not-lasts-clause-apart
returns-then-not-lasts-clause-apart c =
    ap (λ n. are_apart (take n c.args.windows.now)) (let r : c.loop-window.count ≡ c.loop-window.count + 0 = omega arith in r) ∙ c.loop-window.invariant.1 0

pub returns-then-not-lasts-clause-longest : goal.returns-then-not-lasts-clause-longest
returns-then-not-lasts-clause-longest c less =
    none_more c.in-Some.window.now c.in-Some.later.now c.args.windows.now c.loop-window.rest.now c.loop-window.count c.in-Some.ensures.cases.0 c.loop-window.invariant.1 (sym c.if-not-lasts.ensures.test)

pub returns-then-not-is_followed_by-clause-apart : goal.returns-then-not-is_followed_by-clause-apart
returns-then-not-is_followed_by-clause-apart c =
    one_apart c.in-Some.window.now c.in-Some.later.now c.args.windows.now c.loop-window.rest.now c.loop-window.count c.in-Some.ensures.cases.0 c.loop-window.invariant.1 (sym c.if-not-lasts.ensures.test)

pub returns-then-not-is_followed_by-clause-longest : goal.returns-then-not-is_followed_by-clause-longest
returns-then-not-is_followed_by-clause-longest c less =
    none_behind c.in-Some.window.now c.in-Some.later.now c.args.windows.now c.loop-window.rest.now c.loop-window.count c.in-Some.ensures.cases.0 c.loop-window.invariant.1 (sym c.if-not-is_followed_by.ensures)

pub loop-window-preserved : goal.loop-window-preserved
loop-window-preserved c =
    let split : length c.loop-window.rest.now ≡ length c.in-Some.later.now + 1 = ap length c.in-Some.ensures.cases.0 ∙ omega arith in (
      omega (arith, split, c.loop-window.invariant.0),
      more_apart c.in-Some.window.now c.in-Some.later.now c.args.windows.now c.loop-window.rest.now c.loop-window.count c.in-Some.ensures.cases.0 c.loop-window.invariant.1 (sym c.if-not-lasts.ensures.test) (sym c.if-not-is_followed_by.ensures),
      λ none. absurd (omega (arith, none)),
    )
