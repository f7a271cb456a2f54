use Rattle.std.proofs.Common.{◌+◌, ◌*◌}
use Rattle.adr_group.proofs.share.+workers.Given as goal

abbrev pub decreases-do_first : goal.decreases-do_first
decreases-do_first g l = 2 * l.count

abbrev pub decreases-others : goal.decreases-others
decreases-others g l = 2 * l.worker + 1
