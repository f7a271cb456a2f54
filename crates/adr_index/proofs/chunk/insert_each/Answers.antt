use Rattle.std.proofs.Common.{rules, arith, ◌≡◌, ◌<◌, ◌+◌, ◌-◌, take, false, true, sym, subst, ◌∙◌, get_or}
use Rattle.std.specs.List.{AllByRecursion}
use Rattle.std.proofs.lemmas.List.{get_or_read, take-set-le}
use Rattle.adr_model.specs.declared.entry.Entry.{Entry}
use Rattle.adr_model.specs.Entries.{is_listed_before}
use Rattle.adr_index.proofs.Merged.{all_before_last, comes_last, last_alike, stays_last, take_fewer_alike}
use Rattle.adr_index.proofs.chunk.insert_each.Goals.{else-left-gt0-via-then-left-gt0+else-not-comes_before, else-left-gt0-via-else-left-gt0}
use Rattle.adr_index.proofs.chunk.insert_each.Goals as goal

pub loop-coming-preserved-then-not-comes_before : goal.loop-coming-preserved-then-not-comes_before
loop-coming-preserved-then-not-comes_before c =
    let i = c.loop-coming.left in
    let j = c.loop-coming.coming in
    let es = c.loop-coming.entries.items in
    let old = c.args.entries.now.items in
    let x = c.index-then-not-comes_before.result.now in
    let some : 0 < i = c.if-left-gt0.true in
    let all = c.loop-coming.invariant.all in
    let here : c.index.result.now ≡ get_or es (i - 1) c.index.result.now = c.index.ensures in
    let one : x ≡ c.index.result.now = get_or_read es (i - 1) x (omega (arith, some, all, c.loop-coming.invariant.left)) c.index-then-not-comes_before.ensures c.index.result.now ∙ sym here in
    let test : is_listed_before c.index.result.now c.index-run-coming.result ≡ false = search rules in
    let later : is_listed_before x c.index-run-coming.result ≡ false = subst (λ (e : Entry). is_listed_before e c.index-run-coming.result ≡ false) (sym one) test in
    record {
      left = omega (arith, c.loop-coming.invariant.left);
      coming = c.loop-coming.invariant.coming;
      all = search rules;
      rest = take-set-le (i - 1) es (i + j - 1) x (omega (arith, some)) ∙ take_fewer_alike es old i (i - 1) (omega arith) c.loop-coming.invariant.rest;
      entries = stays_last c.args.run.now old es i j x c.index-run-coming.result (c.requires.run, c.requires.order) some c.loop-coming.invariant.left c.loop-coming-test.true c.loop-coming.invariant.coming (omega (arith, all, c.loop-coming.invariant.left, c.loop-coming.invariant.coming)) (last_alike es old i x some c.loop-coming.invariant.rest c.index-then-not-comes_before.ensures) c.index-run-coming.is later c.loop-coming.invariant.entries;
      room = c.loop-coming.invariant.room;
    }

pub loop-coming-preserved : goal.loop-coming-preserved
loop-coming-preserved c =
    let i = c.loop-coming.left in
    let j = c.loop-coming.coming in
    let es = c.loop-coming.entries.items in
    let old = c.args.entries.now.items in
    let run = c.args.run.now in
    let r = c.index-run-coming-else-left-gt0.result in
    let all = c.loop-coming.invariant.all in
    let few = c.loop-coming.invariant.coming in
    let sooner : AllByRecursion (λ e. is_listed_before e r ≡ true) (take i old) = elim c.else-left-gt0.branch [
      | else-left-gt0-via-then-left-gt0+else-not-comes_before w ↦
          let some : 0 < i = w.if-left-gt0.true in
          let one : w.index-run-coming.result ≡ r = get_or_read run (j - 1) w.index-run-coming.result (omega (arith, c.loop-coming-test.true, few)) w.index-run-coming.is r ∙ sym c.index-run-coming-else-left-gt0.is in
          let test : is_listed_before w.index.result.now w.index-run-coming.result ≡ true = search rules in
          all_before_last old i w.index.result.now r c.requires.order some c.loop-coming.invariant.left (last_alike es old i w.index.result.now some c.loop-coming.invariant.rest w.index.ensures) (subst (λ (e : Entry). is_listed_before w.index.result.now e ≡ true) one test)
      | else-left-gt0-via-else-left-gt0 w ↦ let none : i ≡ 0 = omega (arith, w.if-left-gt0.false) in rw none tt
    ] in
    record {
      left = c.loop-coming.invariant.left;
      coming = omega (arith, few);
      all = search rules;
      rest = take-set-le i es (i + j - 1) r (omega (arith, c.loop-coming-test.true)) ∙ c.loop-coming.invariant.rest;
      entries = comes_last run old es i j r r (c.requires.run, c.requires.order) c.loop-coming-test.true few (omega (arith, all, c.loop-coming.invariant.left, few)) c.index-run-coming-else-left-gt0.is sooner c.loop-coming.invariant.entries;
      room = c.loop-coming.invariant.room;
    }
