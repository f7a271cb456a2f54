use Rattle.std.proofs.Common.{rules, refl, arith}
use Rattle.adr_index.proofs.chunk.EntryChunk.settle.Goals as goal

pub returns : goal.returns
returns c = record {
  entries = refl;
  nodes = refl;
  ends = rw c.requires.by_end (record {
    levels = 64;
    enough = rw (← c.deref.ensures.value) (omega (arith, c.deref.type_inv.0));
    searched = c.requires.order;
  });
  end = rw c.deref.ensures.value at c.last_of-self.ensures;
  last = rw c.deref-2.ensures.value at c.last_start-self.ensures;
}
