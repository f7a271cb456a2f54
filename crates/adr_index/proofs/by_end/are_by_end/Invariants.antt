use Rattle.std.proofs.Common.{◌≡◌, ◌-◌, ◌<◌, get_or, take}
use Rattle.adr_model.specs.declared.entry.Entry.{Entry}
use Rattle.adr_index.specs.Tree.{own_end, IsByEnd}
use Rattle.adr_index.proofs.by_end.are_by_end.Given as goal

abbrev pub invariant-loop-entry : goal.invariant-loop-entry
invariant-loop-entry l = record {
  order : IsByEnd (take l.entry-index l.entries);
  last : (d : Entry) → 0 < l.entry-index → l.greatest ≡ own_end (get_or l.entries (l.entry-index - 1) d);
}
