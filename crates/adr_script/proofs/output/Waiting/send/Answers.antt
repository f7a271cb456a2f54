use Rattle.std.proofs.Common.{[], ◌++◌, sym, refl, ◌∙◌, append-nil}
use Rattle.std.proofs.lemmas.Result.{err_from_is_err_and, on_ok_weaker, on_err_weaker}
use Rattle.adr_script.proofs.Sending.{sends-front, sends-through}
use Rattle.adr_script.proofs.output.Waiting.send.Goals as goal

pub returns-in_err-flush-clause-err : goal.returns-in_err-flush-clause-err
returns-in_err-flush-clause-err g c =
    let p = err_from_is_err_and c.from_residual.result c.from_residual.ensures.1 in
    let kept = c.if-add.ensures.kept refl in
    let (part, more, split, written) = c.in_err-flush.ensures.err in
    rw p.1 (more ++ c.args.reply.now, sends-front _ _ _ c.args.reply.now part more (sym kept ∙ split) written)

pub returns-clause-ok : goal.returns-clause-ok
returns-clause-ok g c =
    let kept = c.if-add.ensures.kept refl in
    on_ok_weaker c.write_fully.result (λ written. rw c.flush.ensures.none
    (sends-through _ _ _ _ _ c.args.reply.now c.args.reply.now [] kept c.in_ok-flush.ensures.ok (sym (append-nil _)) written)) c.write_fully.ensures.ok

pub returns-clause-err : goal.returns-clause-err
returns-clause-err g c =
    let kept = c.if-add.ensures.kept refl in
    on_err_weaker c.write_fully.result (λ failed.
    let (part, more, split, written) = failed in (more, sends-through _ _ _ _ _ c.args.reply.now part more kept c.in_ok-flush.ensures.ok split written)) c.write_fully.ensures.err
