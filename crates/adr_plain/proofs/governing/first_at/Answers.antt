use Rattle.std.proofs.Common.{◌∙◌, ◌++◌, ◌∷◌, [], sym, ap, Some, List, Bool, cond, filter, take}
use Rattle.std.specs.Prelude.{Option}
use Rattle.std.proofs.lemmas.Grind.{take_at_read}
use Rattle.adr_time.specs.Spans.{covers}
use Rattle.adr_model.specs.declared.entry.Entry.{Entry}
use Rattle.adr_model.specs.Governor.{first_of}
use Rattle.adr_plain.specs.Scan.{first_with}
use Rattle.adr_plain.proofs.Scanning.{first_passed}
use Rattle.adr_plain.proofs.governing.first_at.Goals as goal

pub loop-entry-preserved : goal.loop-entry-preserved
loop-entry-preserved c =
    let test : Entry → Bool = λ e. covers e.span c.args.moment in
    let passed : List Entry = take c.loop-entry.entry-index c.args.entries.now in
    let e : Entry = c.entry-item.result in
    c.found_with-found.ensures
    ∙ ap (λ (o : Option Entry). cond (test e) (Some (first_with e o)) o) c.loop-entry.invariant
    ∙ sym (first_passed test passed e)
    ∙ ap (λ (es : List Entry). first_of (filter test es))
    (ap (λ (x : Entry). passed ++ x ∷ []) c.entry-item.is ∙ sym (take_at_read c.args.entries.now c.loop-entry.entry-index e c.loop-entry-test.true).1)
