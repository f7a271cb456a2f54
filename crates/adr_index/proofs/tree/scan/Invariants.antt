use Rattle.std.proofs.Common.{◌≡◌, ◌+◌, ◌≤◌, ◌++◌, drop}
use Rattle.adr_index.specs.Query.{any_late, hits, wanted_of}
use Rattle.adr_index.specs.Tree.{IsByStart}
use Rattle.adr_index.proofs.tree.scan.Given as goal

abbrev pub invariant-loop-entry : goal.invariant-loop-entry
invariant-loop-entry g l = record {
  found : l.found.items ++ wanted_of (g.W.Wanted.is_wanted l.asked.wanted.now) (hits (drop l.entry-index l.entries) l.asked.query) ≡ l.fn.found.items ++ wanted_of (g.W.Wanted.is_wanted l.asked.wanted.now) (hits l.entries l.asked.query);
  late : any_late (drop l.entry-index l.entries) l.asked.query ≡ any_late l.entries l.asked.query;
  order : IsByStart (drop l.entry-index l.entries);
  meter : l.meter ≤ l.fn.meter + l.entry-index;
}
