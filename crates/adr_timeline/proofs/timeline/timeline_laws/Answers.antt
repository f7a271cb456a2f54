use Rattle.adr_timeline.proofs.Canonical.{canonical_is_unique}
use Rattle.adr_timeline.proofs.timeline.timeline_laws.Goals as goal

pub returns : goal.returns
returns c = canonical_is_unique
