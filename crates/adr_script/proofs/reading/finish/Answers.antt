use Rattle.std.proofs.Common.{refl, ◌<◌, length}
use Rattle.std.proofs.lemmas.Result.{err_from_is_err_and, on_ok_weaker, on_err_weaker}
use Rattle.adr_script.proofs.Pieces.{told_last}
use Rattle.adr_script.proofs.Sending.{sends-as, sends-all, sends-part, sends-told}
use Rattle.adr_script.proofs.reading.finish.Goals as goal

pub returns-in_err-answer_line-clause-err : goal.returns-in_err-answer_line-clause-err
returns-in_err-answer_line-clause-err g c = let p = err_from_is_err_and c.from_residual.result c.from_residual.ensures.1 in rw p.1 (λ line holds.
    let (told, lost, step, sent) = c.in_err-answer_line.ensures.err _ holds in
    let some : 0 < length line = (c.if-not-has_byte.ensures line holds).0 refl in
    sends-told g.M.Machine.answers _ _ _ _ _ told lost (told_last g.M.Machine.answers _ _ line told some step) (sends-as _ _ _ _ lost told c.requires.none sent))

pub returns-clause-ok : goal.returns-clause-ok
returns-clause-ok g c = on_ok_weaker c.flush.result (λ written line holds.
    let (told, step, sent) = c.in_ok-answer_line.ensures.ok _ holds in
    let some : 0 < length line = (c.if-not-has_byte.ensures line holds).0 refl in
    (told, sends-all _ _ _ _ told (sends-as _ _ _ _ _ told c.requires.none sent) written, told_last g.M.Machine.answers _ _ line told some step)) c.flush.ensures.ok

pub returns-clause-err : goal.returns-clause-err
returns-clause-err g c = on_err_weaker c.flush.result (λ failed line holds.
    let (part, more, split, written) = failed in
    let (told, step, sent) = c.in_ok-answer_line.ensures.ok _ holds in
    let some : 0 < length line = (c.if-not-has_byte.ensures line holds).0 refl in
    sends-told g.M.Machine.answers _ _ _ _ _ told more (told_last g.M.Machine.answers _ _ line told some step)
    (sends-part _ _ _ _ told part more (sends-as _ _ _ _ _ told c.requires.none sent) split written)) c.flush.ensures.err
