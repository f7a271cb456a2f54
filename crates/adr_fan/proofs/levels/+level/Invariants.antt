use Rattle.std.proofs.Common.{length}
use Rattle.adr_fan.proofs.levels.+level.Given as goal

abbrev pub decreases-level : goal.decreases-level
decreases-level g l = length l.seats.items
