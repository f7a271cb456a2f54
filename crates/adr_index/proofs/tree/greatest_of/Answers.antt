use Rattle.adr_index.proofs.Grown.{own_taken}
use Rattle.adr_index.proofs.tree.greatest_of.Goals as goal

pub loop-entry-preserved : goal.loop-entry-preserved
loop-entry-preserved c = λ t.
    rw (c.later-greatest.ensures, c.of.ensures) (own_taken c.args.entries.now c.loop-entry.entry-index c.entry-item.result c.loop-entry-test.true c.entry-item.is t c.loop-entry.greatest _ (c.loop-entry.invariant t))
