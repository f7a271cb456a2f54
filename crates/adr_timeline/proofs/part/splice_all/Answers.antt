use Rattle.std.proofs.Common.{◌≡◌, ◌∙◌, List, None, ap}
use Rattle.std.proofs.lemmas.Result.{on_ok_weaker}
use Rattle.adr_model.specs.declared.timeline.Segment.{Segment}
use Rattle.adr_timeline.specs.Chunks.{listed}
use Rattle.adr_timeline.specs.Parts.{spliced_all}
use Rattle.adr_timeline.proofs.Spliced.{IsRepairedAs, repair_made}
use Rattle.adr_timeline.proofs.part.splice_all.Goals as goal

made : (c : goal.After-join_all) → c.join_all.new.line ≡ spliced_all None c.args.line.now (listed c.args.outer.now) (listed c.args.inner.now) c.args.windows.now → IsRepairedAs (listed c.args.outer.now) (listed c.args.inner.now) c.args.windows.now c.join_all.new.line
made c n = repair_made (listed c.args.outer.now) (listed c.args.inner.now) c.args.windows.now c.join_all.new.line c.requires.outer c.requires.inner c.requires.apart
    (n ∙ ap (λ (out : List Segment). spliced_all None out (listed c.args.outer.now) (listed c.args.inner.now) c.args.windows.now) c.requires.empty)

pub returns-clause-canonical : goal.returns-clause-canonical
returns-clause-canonical c = on_ok_weaker c.join_all.result (λ n. (made c n).canonical) c.join_all.ensures

pub returns-clause-shows : goal.returns-clause-shows
returns-clause-shows c = on_ok_weaker c.join_all.result (λ n. (made c n).shown) c.join_all.ensures
