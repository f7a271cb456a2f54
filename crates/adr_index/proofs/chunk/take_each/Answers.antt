use Rattle.std.proofs.Common.{rules, refl, arith, ◌≡◌, ◌≤◌, ◌<◌, ◌⊎◌, ◌++◌, inl, inr, length, take, false, true, sym, ◌∙◌, ap, get_or, List}
use Rattle.std.proofs.lemmas.Grind.{drop_more_same}
use Rattle.adr_model.specs.declared.entry.Entry.{Entry}
use Rattle.adr_model.specs.Entries.{is_listed_before}
use Rattle.adr_index.proofs.Merged.{kept_entries, kept_rest, missed_entries, none_before, rest_stays, taken_entries}
use Rattle.adr_index.proofs.chunk.take_each.Goals.{then-loop-read-test+else-taken-run, else-loop-read-test}
use Rattle.adr_index.proofs.chunk.take_each.Goals as goal

pub loop-read-init : goal.loop-read-init
loop-read-init c = record {
  kept = omega arith;
  read = search rules;
  taken = omega arith;
  all = refl;
  rest = refl;
  entries = none_before c.args.run.now c.args.entries.now.items c.place_of-kept.result c.index-run-0.result c.requires.some c.index-run-0.is c.requires.run (rw c.deref.ensures.value at c.place_of-kept.ensures.before);
  room = omega arith;
}

pub loop-read-preserved-then-comes_before : goal.loop-read-preserved-then-comes_before
loop-read-preserved-then-comes_before c =
    let inside : c.loop-read.read < length c.loop-read.entries.items = search rules in
    let read : c.index-entry.result.now ≡ get_or c.loop-read.entries.items c.loop-read.read c.index-entry.result.now = search rules in
    let sooner : is_listed_before c.index-entry.result.now c.index-run-taken.result ≡ true = search rules in
    record {
      kept = omega (arith, c.loop-read.invariant.kept);
      read = search rules;
      taken = c.loop-read.invariant.taken;
      all = search rules;
      rest = kept_rest c.args.run.now c.args.entries.now.items c.loop-read.entries.items c.loop-read.kept c.loop-read.read c.loop-read.taken c.index-entry.result.now c.index-run-taken.result (c.requires.run, c.requires.order) c.loop-read.invariant.kept inside c.if-taken-run.true (read, c.index-run-taken.is) c.loop-read.invariant.rest c.loop-read.invariant.entries;
      entries = kept_entries c.args.run.now c.args.entries.now.items c.loop-read.entries.items c.loop-read.kept c.loop-read.read c.loop-read.taken c.index-entry.result.now c.index-run-taken.result (c.requires.run, c.requires.order) c.loop-read.invariant.kept inside c.if-taken-run.true (read, c.index-run-taken.is) c.loop-read.invariant.rest c.loop-read.invariant.entries sooner;
      room = c.loop-read.invariant.room;
    }

pub loop-read-preserved-then-comes_before-2 : goal.loop-read-preserved-then-comes_before-2
loop-read-preserved-then-comes_before-2 c =
    let inside : c.loop-read.read < length c.loop-read.entries.items = search rules in
    let read : c.index-entry.result.now ≡ get_or c.loop-read.entries.items c.loop-read.read c.index-entry.result.now = search rules in
    let sooner : is_listed_before c.index-entry.result.now c.index-run-taken.result ≡ false = search rules in
    let later : is_listed_before c.index-run-taken.result c.index-entry.result.now ≡ true = search rules in
    record {
      kept = c.loop-read.invariant.kept;
      read = c.loop-read.invariant.read;
      taken = omega (arith, c.if-taken-run.true);
      all = c.loop-read.invariant.all;
      rest = c.loop-read.invariant.rest;
      entries = missed_entries c.args.run.now c.args.entries.now.items c.loop-read.entries.items c.loop-read.kept c.loop-read.read c.loop-read.taken c.index-entry.result.now c.index-run-taken.result (c.requires.run, c.requires.order) c.loop-read.invariant.kept inside c.if-taken-run.true (read, c.index-run-taken.is) c.loop-read.invariant.rest c.loop-read.invariant.entries sooner later;
      room = c.loop-read.invariant.room;
    }

pub loop-read-preserved : goal.loop-read-preserved
loop-read-preserved c =
    let inside : c.loop-read.read < length c.loop-read.entries.items = search rules in
    let read : c.index-entry.result.now ≡ get_or c.loop-read.entries.items c.loop-read.read c.index-entry.result.now = search rules in
    let sooner : is_listed_before c.index-entry.result.now c.index-run-taken.result ≡ false = search rules in
    let later : is_listed_before c.index-run-taken.result c.index-entry.result.now ≡ false = search rules in
    record {
      kept = omega (arith, c.loop-read.invariant.kept);
      read = omega (arith, inside);
      taken = omega (arith, c.if-taken-run.true);
      all = c.loop-read.invariant.all;
      rest = drop_more_same c.loop-read.entries.items c.args.entries.now.items c.loop-read.read c.loop-read.invariant.rest;
      entries = taken_entries c.args.run.now c.args.entries.now.items c.loop-read.entries.items c.loop-read.kept c.loop-read.read c.loop-read.taken c.index-entry.result.now c.index-run-taken.result (c.requires.run, c.requires.order) c.loop-read.invariant.kept inside c.if-taken-run.true (read, c.index-run-taken.is) c.loop-read.invariant.rest c.loop-read.invariant.entries sooner later;
      room = c.loop-read.invariant.room;
    }

pub returns-clause-entries : goal.returns-clause-entries
returns-clause-entries c =
    let ended : (length c.args.entries.now.items ≤ c.loop-read.read) ⊎ (length c.args.run.now ≤ c.loop-read.taken) = elim c.loop-read-test.branch [
      | then-loop-read-test+else-taken-run w ↦ inr (omega (arith, w.if-taken-run.false))
      | else-loop-read-test w ↦ let past : length c.loop-read.entries.items ≤ c.loop-read.read = search rules in inl (omega (arith, past, c.loop-read.invariant.all))
    ] in
    c.take_between.ensures.entries
    ∙ (ap (λ (es : List Entry). take c.loop-read.kept c.loop-read.entries.items ++ es) (c.loop-read.invariant.rest ∙ sym (rest_stays c.args.run.now c.args.entries.now.items c.loop-read.read c.loop-read.taken ended)) ∙ c.loop-read.invariant.entries)
