use Rattle.std.proofs.Common.{[], ◌∷◌, ◌++◌, sym, subst, rules}
use Rattle.std.proofs.lemmas.Result.{err_from_is_err_and, on_ok_weaker, on_err_weaker}
use Rattle.adr_script.specs.Begun.{Holds}
use Rattle.adr_script.specs.Script.{Told}
use Rattle.adr_script.proofs.Pieces.{plain, split_more, rest_more, told_more, told_short, lines_none, rest_none}
use Rattle.adr_script.proofs.Sending.{sends-as, sends-all, sends-part, sends-told, sends-trans}
use Rattle.adr_script.proofs.reading.serve_piece.Goals as goal

pub loop-end-preserved : goal.loop-end-preserved
loop-end-preserved g c = record {
  room = c.answer_line.ensures.room;
  fresh = c.in_ok-answer_line.ensures.unfailed;
  told = λ line holds.
      let (front, out, split, kept, sent, told) = c.loop-end.invariant.told line holds in
      let (reply, step, more) = c.in_ok-answer_line.ensures.ok _ (c.add.ensures _ kept) in
      let end = c.in-Some.end.now in (
        front ++ (end ++ 10 ∷ []),
        out ++ reply,
        split_more _ front _ end _ split c.in-Some.ensures.found.0,
        subst (Holds c.answer_line.new.session.begun) (sym (rest_more line front end)) c.in_ok-answer_line.ensures.cleared,
        sends-trans _ _ _ _ _ _ out reply sent more,
        told_more g.M.Machine.answers _ _ _ line front end out reply (plain _ c.in-Some.ensures.found.1) told step,
      );
}

pub returns-in_err-answer_line-clause-err : goal.returns-in_err-answer_line-clause-err
returns-in_err-answer_line-clause-err g c = let p = err_from_is_err_and c.from_residual.result c.from_residual.ensures.1 in rw p.1 (λ line holds.
    let (front, out, split, kept, sent, told) = c.loop-end.invariant.told line holds in
    let (reply, lost, step, more) = c.in_err-answer_line.ensures.err _ (c.add.ensures _ kept) in
    let end = c.in-Some.end.now in
    let all = told_more g.M.Machine.answers _ _ _ line front end out reply (plain _ c.in-Some.ensures.found.1) told step in
    let cut = sends-as _ _ _ _ lost (out ++ reply) c.requires.none (sends-trans _ _ _ _ _ _ out reply sent more) in
    let (written, appended, part) = sends-told g.M.Machine.answers _ _ _ _ _ (out ++ reply) lost all cut in
    (written, appended, told_short g.M.Machine.answers _ _ line _ front _ end _ written split c.in-Some.ensures.found.0 part))

pub returns-clause-none : goal.returns-clause-none
returns-clause-none g c = search rules

pub returns-clause-ok : goal.returns-clause-ok
returns-clause-ok g c = on_ok_weaker c.flush.result (λ written line holds.
    let (front, out, split, kept, sent, told) = c.loop-end.invariant.told line holds in
    let rest = c.loop-end.rest.now in
    let none = plain rest c.in_default.ensures.none in (
      subst (Holds c.add-2.new.self) (sym (rest_none line _ front rest split none)) (c.add-2.ensures _ kept),
      (
        out,
        sends-all _ _ _ _ out (sends-as _ _ _ _ _ out c.requires.none sent) written,
        subst (λ ls. Told g.M.Machine.answers c.args.machine.now ls out c.loop-end.machine) (sym (lines_none line _ front rest split none)) told,
      ),
    )) c.flush.ensures.ok

pub returns-clause-err : goal.returns-clause-err
returns-clause-err g c = on_err_weaker c.flush.result (λ failed line holds.
    let (part, more, cut, written) = failed in
    let (front, out, split, kept, sent, told) = c.loop-end.invariant.told line holds in
    let rest = c.loop-end.rest.now in
    let all = subst (λ ls. Told g.M.Machine.answers c.args.machine.now ls out c.loop-end.machine) (sym (lines_none line _ front rest split (plain rest c.in_default.ensures.none))) told in
    sends-told g.M.Machine.answers _ _ _ _ _ out more all (sends-part _ _ _ _ out part more (sends-as _ _ _ _ _ out c.requires.none sent) cut written)) c.flush.ensures.err
