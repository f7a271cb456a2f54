use Rattle.std.proofs.Common.{◌≡◌, ◌<◌, ◌-◌, false, [], ◌∷◌, length, get_or, take, sym, subst, ◌∙◌, arith, ap, ◌++◌}
use Rattle.std.proofs.lemmas.List.{get_or_read, get_or-take, length-take-le, take_more}
use Rattle.adr_model.specs.declared.entry.Entry.{Entry}
use Rattle.adr_index.specs.Chunks.{EndsBefore, GoTogether}
use Rattle.adr_index.proofs.Runs.{together_more, together_one}
use Rattle.adr_index.proofs.table.run_into.Goals as goal

pub loop-count-init : goal.loop-count-init
loop-count-init c = record { some = omega arith; inside = omega (arith, c.requires.some); together = together_one c.args.chunk.now c.args.entries.now }

pub loop-count-preserved : goal.loop-count-preserved
loop-count-preserved c =
    let n = c.loop-count.count in
    let es = c.args.entries.now in
    let x = c.index-entries-count.result in
    let e = c.index-entries-count-in-loop-count.result in
    let inside : n < length es = omega arith in
    let count : length (take n es) ≡ n = length-take-le n es (omega arith) in
    let read : x ≡ get_or (take n es) (length (take n es) - 1) x = rw count (c.index-entries-count.is ∙ sym (get_or-take n es (n - 1) x (omega (arith, c.loop-count.invariant.some)))) in
    let one : c.index-entries-count-then-comes_before.result ≡ e = get_or_read es n c.index-entries-count-then-comes_before.result inside c.index-entries-count-then-comes_before.is e ∙ sym c.index-entries-count-in-loop-count.is in
    let ends = subst (λ (f : Entry). EndsBefore c.args.chunk.now f false) one c.if-not-ends_before.ensures in
    record {
      some = omega arith;
      inside = omega arith;
      together =
          subst (GoTogether c.args.chunk.now) (sym (take_more es n e inside ∙ ap (λ (f : Entry). take n es ++ f ∷ []) (sym c.index-entries-count-in-loop-count.is)))
          (together_more c.args.chunk.now (take n es) x e (rw count c.loop-count.invariant.some) read c.loop-count.invariant.together (sym c.comes_before.ensures ∙ c.if-comes_before.true) ends);
    }
