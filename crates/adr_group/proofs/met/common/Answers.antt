use Rattle.adr_group.proofs.Enough.{both_cover, part_meets}
use Rattle.adr_group.proofs.met.common.Goals as goal

pub returns-clause-covers : goal.returns-clause-covers
returns-clause-covers c t h k =
    rw (c.later.ensures, c.earlier.ensures) (both_cover c.args.a.now c.args.b.now t h k)

pub returns-clause-meets : goal.returns-clause-meets
returns-clause-meets c span h =
    part_meets span c.args.a.now c.args.b.now.start c.args.b.now.end (rw (c.later.ensures, c.earlier.ensures) at h)
