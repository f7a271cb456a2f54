use Rattle.std.proofs.Common.{◌+◌, ◌*◌, arith}
use Rattle.adr_trials.proofs.Rising.{below_again, fresh_again}
use Rattle.adr_trials.proofs.indexes.filled.write_again.Goals as goal

pub replace-requires-clause-fresh : goal.replace-requires-clause-fresh
replace-requires-clause-fresh c =
    rw (c.deref.ensures.value, c.in_ok-make_room.ensures.entries) (fresh_again (c.args.count + 16 * c.args.time) c.args.old.now c.in_ok-new.new.items c.args.index.now.entries c.requires c.in_ok-new.ensures.rising)

pub returns-clause-below : goal.returns-clause-below
returns-clause-below c =
    rw (c.replace.ensures.entries, c.deref.ensures.value, c.in_ok-make_room.ensures.entries)
    (below_again (c.args.count + 16 * c.args.time) c.args.old.now c.in_ok-new.new.items c.args.index.now.entries c.requires c.in_ok-new.ensures.rising _ c.in_ok-new.ensures.length (omega arith))

pub returns-clause-length : goal.returns-clause-length
returns-clause-length c = c.in_ok-new.ensures.length
