use Rattle.std.proofs.Common.{rules, ◌≡◌, ◌+◌, ◌-◌, ◌∙◌, ap, arith, get_or}
use Rattle.std.proofs.lemmas.List.{get_or_read}
use Rattle.adr_index.specs.Tree.{own_end}
use Rattle.adr_index.proofs.ByEnd.{by_end_stepped, whole_taken}
use Rattle.adr_index.proofs.by_end.are_by_end.Goals as goal

pub loop-entry-preserved : goal.loop-entry-preserved
loop-entry-preserved c = record {
  order = by_end_stepped c.args.entries.now c.loop-entry.entry-index c.entry-item.result c.loop-entry.greatest c.loop-entry-test.true c.entry-item.is c.loop-entry.invariant.order c.loop-entry.invariant.last (rw (← c.of-reach.ensures) (c.is_from.ensures (search rules)));
  last = λ d some.
      let less : c.loop-entry.entry-index + 1 - 1 ≡ c.loop-entry.entry-index = omega arith in
      rw (less, ← get_or_read c.args.entries.now c.loop-entry.entry-index c.entry-item.result c.loop-entry-test.true c.entry-item.is d) c.of-reach.ensures;
}

pub returns : goal.returns
returns c = λ _. whole_taken c.args.entries.now c.loop-entry.entry-index c.loop-entry-test.false c.loop-entry.invariant.order
