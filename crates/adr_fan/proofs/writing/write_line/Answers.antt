use Rattle.std.proofs.Common.{◌≡◌, ◌++◌, ℕ, List, subst, ◌∙◌}
use Rattle.std.specs.Prelude.{codes}
use Rattle.std.specs.Fmt.{decimal}
use Rattle.std.specs.Io.KnownBytes.{Appends}
use Rattle.std.proofs.lemmas.Result.{on_err_weaker}
use Rattle.adr_fan.specs.Levels.{WritesPart}
use Rattle.adr_fan.proofs.Fronts.{part_front, part_behind, at_err}
use Rattle.adr_fan.proofs.writing.write_line.Goals as goal

pub returns-in_err-write_fully-clause-err : goal.returns-in_err-write_fully-clause-err
returns-in_err-write_fully-clause-err g c =
    let a = g.W.Write.contents c.args.writer.now in
    let b = g.W.Write.contents c.write_fully.new.writer in
    at_err c.from_residual.result _ (part_front a b (codes "reader ") (decimal c.args.reader ++ codes "\n") c.in_err-write_fully.ensures.err)

pub returns-in_err-write_fully-2-clause-err : goal.returns-in_err-write_fully-2-clause-err
returns-in_err-write_fully-2-clause-err g c =
    let a = g.W.Write.contents c.args.writer.now in
    let b = g.W.Write.contents c.write_fully.new.writer in
    let d = g.W.Write.contents c.write_fully-2.new.writer in
    let text : c.as_bytes.result.now ≡ decimal c.args.reader = c.as_bytes.ensures.value ∙ c.format.ensures.text in
    let last : WritesPart b d (decimal c.args.reader) = subst (λ (t : List ℕ). WritesPart b d t) text c.in_err-write_fully-2.ensures.err in
    at_err c.from_residual-in_err-write_fully-2.result _ (part_behind a b d (codes "reader ") (decimal c.args.reader ++ codes "\n") c.in_ok-write_fully.ensures.ok (part_front b d (decimal c.args.reader) (codes "\n") last))

pub returns-clause-err : goal.returns-clause-err
returns-clause-err g c =
    let a = g.W.Write.contents c.args.writer.now in
    let b = g.W.Write.contents c.write_fully.new.writer in
    let d = g.W.Write.contents c.write_fully-2.new.writer in
    let e = g.W.Write.contents c.write_fully-3.new.writer in
    let text : c.as_bytes.result.now ≡ decimal c.args.reader = c.as_bytes.ensures.value ∙ c.format.ensures.text in
    let middle : Appends b d (decimal c.args.reader) = subst (λ (t : List ℕ). Appends b d t) text c.in_ok-write_fully-2.ensures.ok in
    on_err_weaker c.write_fully-3.result (λ h. part_behind a b e (codes "reader ") (decimal c.args.reader ++ codes "\n") c.in_ok-write_fully.ensures.ok (part_behind b d e (decimal c.args.reader) (codes "\n") middle h)) c.write_fully-3.ensures.err
