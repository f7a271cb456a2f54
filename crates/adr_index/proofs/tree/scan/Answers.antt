use Rattle.std.proofs.Common.{rules, ◌≡◌, ◌++◌, List, true, false, sym, ◌∙◌, ap, arith}
use Rattle.std.proofs.lemmas.List.{append-nil}
use Rattle.adr_model.specs.declared.entry.Entry.{Entry}
use Rattle.adr_index.specs.Query.{wanted_of}
use Rattle.adr_index.proofs.Searched.{stopped, stepped_found, stepped_late, stepped_order}
use Rattle.adr_index.proofs.tree.scan.Goals as goal

pub returns-then-is_late-clause-found : goal.returns-then-is_late-clause-found
returns-then-is_late-clause-found g c =
    let late : c.is_late.result ≡ true = search rules in
    let none = stopped c.args.entries.now c.loop-entry.entry-index c.entry-item.result c.args.asked.now.query c.loop-entry-test.true c.entry-item.is c.loop-entry.invariant.order (sym c.is_late.ensures ∙ late) in
    sym (append-nil c.loop-entry.found.items) ∙ (ap (λ (xs : List Entry). c.loop-entry.found.items ++ wanted_of (g.W.Wanted.is_wanted c.args.asked.now.wanted.now) xs) (sym none) ∙ c.loop-entry.invariant.found)

pub loop-entry-preserved : goal.loop-entry-preserved
loop-entry-preserved g c =
    let early : c.is_late.result ≡ false = search rules in
    record {
      found = stepped_found c.args.entries.now c.loop-entry.entry-index c.entry-item.result c.args.asked.now.query c.loop-entry-test.true c.entry-item.is (g.W.Wanted.is_wanted c.args.asked.now.wanted.now) c.loop-entry.found.items c.keep_hit.new.found.items _ c.loop-entry.invariant.found c.in_ok-keep_hit.ensures;
      late = stepped_late c.args.entries.now c.loop-entry.entry-index c.entry-item.result c.args.asked.now.query c.loop-entry-test.true c.entry-item.is _ c.loop-entry.invariant.late (sym c.is_late.ensures ∙ early);
      order = stepped_order c.args.entries.now c.loop-entry.entry-index c.entry-item.result c.args.asked.now.query c.loop-entry-test.true c.entry-item.is c.loop-entry.invariant.order;
      meter = omega (arith, c.tick.ensures, c.loop-entry.invariant.meter);
    }
