use Rattle.std.proofs.Common.{◌≡◌, ◌+◌, ◌++◌, ℕ, List, drop, sym, ap, subst, ◌∙◌, arith}
use Rattle.std.specs.Io.KnownBytes.{Appends}
use Rattle.std.proofs.KnownBytes.{Appends-trans}
use Rattle.std.proofs.lemmas.List.{at_drop_more}
use Rattle.adr_resolver.specs.Fan.{reader_line}
use Rattle.adr_fan.specs.Levels.{WritesPart}
use Rattle.adr_fan.specs.Parts.{texts, all_texts}
use Rattle.adr_fan.proofs.Fronts.{Wrote, wrote_more, wrote_part, part_front, part_behind, at_err}
use Rattle.adr_fan.proofs.writing.write_parts.Goals as goal

pub loop-reader-preserved : goal.loop-reader-preserved
loop-reader-preserved g c =
    let a = g.W.Write.contents c.args.writer.now in
    let b = g.W.Write.contents c.loop-reader.writer in
    let d = g.W.Write.contents c.write_line.new.writer in
    let e = g.W.Write.contents c.write_replies.new.writer in
    let parts = c.args.parts.now in
    let at = c.loop-reader.reader in
    let part = c.index-parts-reader.result in
    let line = reader_line at in
    let text = texts part.items in
    let rest = all_texts (at + 1) (drop (at + 1) parts) in
    let next : all_texts at (drop at parts) ≡ (line ++ text) ++ rest = at_drop_more (all_texts at) parts at part (omega arith) ∙ ap (λ p. (line ++ texts p.items) ++ rest) (sym c.index-parts-reader.is) in
    let behind : Appends d e text = subst (λ (t : List ℕ). Appends d e t) (ap texts c.as_slice.ensures.value) c.in_ok-write_replies.ensures.ok in
    (wrote_more a b e (all_texts 0 parts) (line ++ text) rest (subst (λ (t : List ℕ). Wrote a b (all_texts 0 parts) t) next c.loop-reader.invariant.0) (Appends-trans b d e line text c.in_ok-write_line.ensures.ok behind), c.in_ok-write_replies.ensures.unfailed ∙ c.in_ok-write_line.ensures.unfailed ∙ c.loop-reader.invariant.1)

pub returns-in_err-write_line-clause-err : goal.returns-in_err-write_line-clause-err
returns-in_err-write_line-clause-err g c =
    let a = g.W.Write.contents c.args.writer.now in
    let b = g.W.Write.contents c.loop-reader.writer in
    let d = g.W.Write.contents c.write_line.new.writer in
    let parts = c.args.parts.now in
    let at = c.loop-reader.reader in
    let part = c.index-parts-reader.result in
    let line = reader_line at in
    let text = texts part.items in
    let rest = all_texts (at + 1) (drop (at + 1) parts) in
    let next : all_texts at (drop at parts) ≡ (line ++ text) ++ rest = at_drop_more (all_texts at) parts at part (omega arith) ∙ ap (λ p. (line ++ texts p.items) ++ rest) (sym c.index-parts-reader.is) in
    at_err c.from_residual.result _ (wrote_part a b d (all_texts 0 parts) (line ++ text) rest (subst (λ (t : List ℕ). Wrote a b (all_texts 0 parts) t) next c.loop-reader.invariant.0) (part_front b d line text c.in_err-write_line.ensures.err))

pub returns-in_err-write_replies-clause-err : goal.returns-in_err-write_replies-clause-err
returns-in_err-write_replies-clause-err g c =
    let a = g.W.Write.contents c.args.writer.now in
    let b = g.W.Write.contents c.loop-reader.writer in
    let d = g.W.Write.contents c.write_line.new.writer in
    let e = g.W.Write.contents c.write_replies.new.writer in
    let parts = c.args.parts.now in
    let at = c.loop-reader.reader in
    let part = c.index-parts-reader.result in
    let line = reader_line at in
    let text = texts part.items in
    let rest = all_texts (at + 1) (drop (at + 1) parts) in
    let next : all_texts at (drop at parts) ≡ (line ++ text) ++ rest = at_drop_more (all_texts at) parts at part (omega arith) ∙ ap (λ p. (line ++ texts p.items) ++ rest) (sym c.index-parts-reader.is) in
    let behind : WritesPart d e text = subst (λ (t : List ℕ). WritesPart d e t) (ap texts c.as_slice.ensures.value) c.in_err-write_replies.ensures.err in
    at_err c.from_residual-in_err-write_replies.result _ (wrote_part a b e (all_texts 0 parts) (line ++ text) rest (subst (λ (t : List ℕ). Wrote a b (all_texts 0 parts) t) next c.loop-reader.invariant.0) (part_behind b d e line text c.in_ok-write_line.ensures.ok behind))
