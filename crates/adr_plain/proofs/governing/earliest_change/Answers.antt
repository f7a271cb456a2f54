use Rattle.std.proofs.Common.{◌∙◌, ◌++◌, ◌∷◌, [], ℤ, sym, ap, List, Bool, cond, filter, take}
use Rattle.std.proofs.lemmas.Grind.{take_at_read}
use Rattle.adr_time.specs.declared.span.End.{End}
use Rattle.adr_model.specs.Answer.{earlier_of, earliest, is_change}
use Rattle.adr_plain.proofs.Scanning.{earliest_passed}
use Rattle.adr_plain.proofs.governing.earliest_change.Goals as goal

pub loop-bound-preserved : goal.loop-bound-preserved
loop-bound-preserved c =
    let test : ℤ → Bool = is_change c.args.entries.now c.args.moment in
    let passed : List ℤ = take c.loop-bound.bound-index c.args.bounds.now in
    let t : ℤ = c.bound-item.result in
    record {
      known = c.loop-bound.invariant.known;
      found =
          c.end_with-end.ensures
          ∙ ap (λ (e : End). cond (test t) (earlier_of t e) e) c.loop-bound.invariant.found
          ∙ sym (earliest_passed test passed t)
          ∙ ap (λ (ts : List ℤ). earliest (filter test ts))
          (ap (λ (x : ℤ). passed ++ x ∷ []) c.bound-item.is ∙ sym (take_at_read c.args.bounds.now c.loop-bound.bound-index t c.loop-bound-test.true).1);
    }
