use Rattle.std.proofs.Common.{◌+◌, ap}
use Rattle.adr_store.proofs.Times.{added}
use Rattle.adr_store.proofs.tally.Tally.with.Goals as goal

pub returns-clause-counts : goal.returns-clause-counts
returns-clause-counts c =
    rw (c.in_ok-put.ensures, c.in_ok-copy.ensures) (added c.args.self.now.counts c.args.id.now (c.count-count.result + 1) (ap (λ n. n + 1) c.count-count.ensures))
