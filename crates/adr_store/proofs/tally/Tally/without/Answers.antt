use Rattle.std.proofs.Common.{◌-◌, arith}
use Rattle.adr_store.proofs.Times.{taken, gone}
use Rattle.adr_store.proofs.tally.Tally.without.Goals as goal

pub returns-then-count-gt1-clause-counts : goal.returns-then-count-gt1-clause-counts
returns-then-count-gt1-clause-counts c =
    rw (c.in_ok-put.ensures, c.in_ok-copy.ensures)
    (taken c.args.self.now.counts c.args.id.now (c.count-count.result - 1) (omega (arith, c.count-count.ensures, c.if-count-gt1.true)))

pub returns-clause-counts : goal.returns-clause-counts
returns-clause-counts c =
    rw c.in_ok-without.ensures (gone c.args.self.now.counts c.args.id.now (omega (arith, c.count-count.ensures, c.requires, c.if-count-gt1.false)))
