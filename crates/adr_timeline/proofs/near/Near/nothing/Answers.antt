use Rattle.std.proofs.Common.{sym, ◌∙◌, neg_ℤ, pos}
use Rattle.adr_timeline.proofs.Within.{nothing_met}
use Rattle.adr_timeline.proofs.near.Near.nothing.Goals as goal

pub returns : goal.returns
returns c = λ es. c.new.ensures.items ∙ sym (nothing_met es (neg_ℤ (pos 377_705_023_201_000_000_000)))
