use Rattle.adr_group.proofs.Seen.{written_meeting}
use Rattle.adr_group.proofs.line.GivenSource.meeting.Goals as goal

pub returns-in-Some-clause-met : goal.returns-in-Some-clause-met
returns-in-Some-clause-met c =
    rw c.in-Some.is (rw (written_meeting c.args.window c.args.self.now.writes.now c.in-Some.index.now.entries) at c.overlapping_of.ensures.found)
