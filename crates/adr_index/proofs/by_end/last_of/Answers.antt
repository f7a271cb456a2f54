use Rattle.std.proofs.Common.{rules, ◌≡◌, ◌-◌, ◌<◌, suc, arith, length}
use Rattle.adr_index.proofs.ByEnd.{greatest_last}
use Rattle.adr_index.proofs.by_end.last_of.Goals as goal

pub returns : goal.returns
returns c =
    let some : 0 < length c.args.entries.now = search rules in
    let all : length c.args.entries.now ≡ suc (length c.args.entries.now - 1) = omega (arith, some) in
    rw c.of.ensures (greatest_last c.args.entries.now (length c.args.entries.now - 1) c.index-entries-entries.result c.requires all c.index-entries-entries.is)
