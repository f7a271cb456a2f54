use Rattle.std.proofs.lemmas.List.{drop_more}
use Rattle.adr_timeline.proofs.part.join_all.Goals as goal

pub loop-window-preserved : goal.loop-window-preserved
loop-window-preserved c =
    rw (c.in_ok-join_part.ensures, c.in_ok-join_from.ensures)
    (rw (drop_more c.args.windows.now c.loop-window.window-index c.window-item.result c.loop-window-test.true, ← c.window-item.is) at c.loop-window.invariant)
