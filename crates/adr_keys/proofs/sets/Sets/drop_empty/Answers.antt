use Rattle.std.proofs.Common.{None, sym}
use Rattle.adr_keys.specs.Blocks.{includes}
use Rattle.adr_keys.proofs.Held.{told_same}
use Rattle.adr_keys.proofs.sets.Sets.drop_empty.Goals as goal

pub returns-then-is_unused : goal.returns-then-is_unused
returns-then-is_unused c = λ k p.
    told_same c.args.self.now.places c.swap_remove.new.self c.args.key.now includes None c.swap_remove.ensures.updates.0 p (sym (c.is_unused.ensures c.if-is_unused.true p)) k
