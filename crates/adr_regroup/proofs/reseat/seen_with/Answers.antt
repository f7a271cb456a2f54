use Rattle.adr_regroup.proofs.reseat.seen_with.Goals as goal

pub returns-clause-seen : goal.returns-clause-seen
returns-clause-seen c = c.in_ok-writes.ensures.writes
