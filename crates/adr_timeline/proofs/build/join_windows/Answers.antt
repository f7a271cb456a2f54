use Rattle.std.proofs.Common.{◌≡◌, ◌+◌, ◌*◌, List, ◌∙◌, ap, subst, length, le_refl, arith}
use Rattle.adr_model.specs.declared.entry.Entry.{Entry}
use Rattle.adr_model.specs.Entries.{meeting}
use Rattle.adr_timeline.specs.Build.{most_compared, most_compared_all, Takes}
use Rattle.adr_timeline.proofs.Built.{all_taken, begun, window_taken}
use Rattle.adr_timeline.proofs.build.join_windows.Goals as goal

pub loop-window-init : goal.loop-window-init
loop-window-init g c = (
  begun (g.S.Source.entries c.args.source.now) c.args.windows.now c.args.line.now c.requires.empty c.requires.apart,
  le_refl _,
  c.nothing-near.ensures (g.S.Source.entries c.args.source.now),
)

pub loop-window-preserved : goal.loop-window-preserved
loop-window-preserved g c =
    let es = g.S.Source.entries c.args.source.now in
    let w = c.in-Some.window.now in
    let near = c.deref.result.now in
    let met : meeting near w ≡ meeting es w = ap (λ (found : List Entry). meeting found w) c.deref.ensures.value ∙ c.in_ok-go_to.ensures.found in
    let as_many : most_compared near w ≡ most_compared es w = ap (λ (found : List Entry). length found * (2 * length found + 1)) met in
    let split : most_compared_all es c.loop-window.rest.now ≡ most_compared es w + most_compared_all es c.in-Some.later.now = ap (most_compared_all es) c.in-Some.ensures.cases.0 in (
      window_taken es c.args.windows.now w c.in-Some.later.now c.loop-window.line c.join_window.new.line c.loop-window.rest.now c.in-Some.ensures.cases.0 c.loop-window.invariant.0
          (subst (λ (found : List Entry). Takes found w c.loop-window.line c.join_window.new.line) met c.in_ok-join_window.ensures.taken),
      omega (arith, split, as_many, c.loop-window.invariant.1, c.join_window.ensures.compared),
      c.in_ok-go_to.ensures.near,
    )

pub returns-clause-canonical : goal.returns-clause-canonical
returns-clause-canonical g c = (all_taken (g.S.Source.entries c.args.source.now) c.args.windows.now c.loop-window.rest.now c.loop-window.line c.in_default.ensures.cases c.loop-window.invariant.0).canonical

pub returns-clause-shows : goal.returns-clause-shows
returns-clause-shows g c = (all_taken (g.S.Source.entries c.args.source.now) c.args.windows.now c.loop-window.rest.now c.loop-window.line c.in_default.ensures.cases c.loop-window.invariant.0).shown
