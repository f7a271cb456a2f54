use Rattle.std.proofs.Common.{◌≡◌, ◌||◌, ◌∙◌, Bool, true, false, sym, arith}
use Rattle.std.specs.List.{list_any}
use Rattle.adr_index.specs.Chunks.{all_listed}
use Rattle.adr_index.specs.Index.{is_entry}
use Rattle.adr_index.specs.Tables.{IsFound}
use Rattle.adr_index.proofs.Found.{without_none, without_others}
use Rattle.adr_index.proofs.table.EntryTable.take_numbered.Goals as goal

or_there : (x y : Bool) (all : Bool) → y ≡ true → (x || y) ≡ all → true ≡ all
or_there true y all h k = k
or_there false y all h k = sym h ∙ k

pub loop-entry-preserved : goal.loop-entry-preserved
loop-entry-preserved c =
    let found : IsFound c.args.written c.args.place c.in-Some.entry (all_listed c.loop-entry.self.chunks.items) = rw c.deref.ensures.value at c.in-Some.ensures.some in
    let one : c.take.result.given ≡ 1 = omega (arith, c.take.ensures.some, c.take.ensures.given) in
    record {
      table = c.take.ensures.table;
      entries = rw (c.take.ensures.entries, one) (without_others c.args.written c.args.place c.in-Some.entry found.named (all_listed c.loop-entry.self.chunks.items) ∙ c.loop-entry.invariant.entries);
      answer = or_there c.loop-entry.is_found (list_any (is_entry c.args.written c.args.place) (all_listed c.loop-entry.self.chunks.items)) _ found.any c.loop-entry.invariant.answer;
      spare = omega (arith, c.take.ensures.spare, c.loop-entry.invariant.spare);
      sum = omega (arith, c.take.ensures.sum, c.loop-entry.invariant.sum);
    }

pub returns-clause-entries : goal.returns-clause-entries
returns-clause-entries c =
    let none : list_any (is_entry c.args.written c.args.place) (all_listed c.loop-entry.self.chunks.items) ≡ false = rw c.deref.ensures.value at c.in_default.ensures.none in
    sym (without_none c.args.written c.args.place (all_listed c.loop-entry.self.chunks.items) none) ∙ c.loop-entry.invariant.entries
