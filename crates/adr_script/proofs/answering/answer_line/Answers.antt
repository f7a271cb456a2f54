use Rattle.std.proofs.Common.{◌++◌, refl, sym, ◌∙◌, inr}
use Rattle.std.proofs.lemmas.Result.{err_from_is_err_and, on_err_weaker}
use Rattle.adr_script.specs.Script.{no_memory}
use Rattle.adr_script.proofs.Sending.{sends-front, sends-as}
use Rattle.adr_script.proofs.answering.answer_line.Goals as goal

-- the line might have been refused for want of memory
pub returns-in_err-flush-clause-err : goal.returns-in_err-flush-clause-err
returns-in_err-flush-clause-err g c = let p = err_from_is_err_and c.from_residual.result c.from_residual.ensures.1 in rw p.1 (λ line holds.
    let (part, more, split, written) = c.in_err-flush.ensures.err in
    (no_memory, more ++ no_memory, inr (refl, c.in-Err.ensures.err), sends-front _ _ _ no_memory part more (sym c.in-Err.ensures.waiting ∙ split) written))

pub returns-in-Err-clause-err : goal.returns-in-Err-clause-err
returns-in-Err-clause-err g c = λ line holds.
    (no_memory, no_memory, inr (refl, c.in-Err.ensures.err), sends-as _ _ _ _ no_memory no_memory c.in-Err.ensures.waiting (_, refl, c.in_ok-flush.ensures.ok))

pub returns-clause-err : goal.returns-clause-err
returns-clause-err g c = on_err_weaker c.send.result (λ failed line holds.
    let (lost, sent) = failed in
    let same = rw c.deref.ensures.value at sent in
    (_, lost, c.in_default.ensures.ok line holds, sends-as _ _ _ _ lost _ c.in_default.ensures.waiting same)) c.send.ensures.err
