use Rattle.std.proofs.Common.{◌≡◌, ◌+◌, ◌++◌, ℕ, List, drop, sym, ap, subst, ◌∙◌, arith}
use Rattle.std.proofs.lemmas.List.{at_drop_more}
use Rattle.adr_fan.specs.Parts.{text_or, texts}
use Rattle.adr_fan.proofs.Fronts.{Wrote, wrote_more, wrote_part, at_err}
use Rattle.adr_fan.proofs.writing.write_replies.Goals as goal

pub loop-reply-preserved : goal.loop-reply-preserved
loop-reply-preserved g c =
    let a = g.W.Write.contents c.args.writer.now in
    let b = g.W.Write.contents c.loop-reply.writer in
    let d = g.W.Write.contents c.write_reply.new.writer in
    let replies = c.args.replies.now in
    let at = c.loop-reply.reply-index in
    let reply = c.reply-item.result in
    let rest = texts (drop (at + 1) replies) in
    let next : texts (drop at replies) ≡ text_or reply.text ++ rest = at_drop_more texts replies at reply (omega arith) ∙ ap (λ r. text_or r.text ++ rest) (sym c.reply-item.is) in
    (wrote_more a b d (texts replies) (text_or reply.text) rest (subst (λ (t : List ℕ). Wrote a b (texts replies) t) next c.loop-reply.invariant.0) c.in_ok-write_reply.ensures.ok, c.in_ok-write_reply.ensures.unfailed ∙ c.loop-reply.invariant.1)

pub returns-in_err-write_reply-clause-err : goal.returns-in_err-write_reply-clause-err
returns-in_err-write_reply-clause-err g c =
    let a = g.W.Write.contents c.args.writer.now in
    let b = g.W.Write.contents c.loop-reply.writer in
    let d = g.W.Write.contents c.write_reply.new.writer in
    let replies = c.args.replies.now in
    let at = c.loop-reply.reply-index in
    let reply = c.reply-item.result in
    let rest = texts (drop (at + 1) replies) in
    let next : texts (drop at replies) ≡ text_or reply.text ++ rest = at_drop_more texts replies at reply (omega arith) ∙ ap (λ r. text_or r.text ++ rest) (sym c.reply-item.is) in
    at_err c.from_residual.result _ (wrote_part a b d (texts replies) (text_or reply.text) rest (subst (λ (t : List ℕ). Wrote a b (texts replies) t) next c.loop-reply.invariant.0) c.in_err-write_reply.ensures.err)
