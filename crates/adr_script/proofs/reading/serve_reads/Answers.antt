use Rattle.std.proofs.Common.{[], ◌++◌, sym, ◌∙◌, subst, take, arith}
use Rattle.std.proofs.KnownBytes.{Appends-trans, Consumes-trans, Consumes-kept}
use Rattle.std.proofs.lemmas.Result.{err_from_is_err_and, on_ok_weaker, on_err_weaker}
use Rattle.adr_script.specs.Begun.{Holds}
use Rattle.adr_script.proofs.Cutting.{rest-append}
use Rattle.adr_script.proofs.ReadsLemmas.{moves_all, moves_short, moves_cut, told_piece, ends_amid, ends_whole, ends_reading, same_fault}
use Rattle.adr_script.proofs.reading.serve_reads.Goals as goal
use Rattle.adr_script.proofs.reading.serve_reads.Goals.{in-Bytes+in_ok-serve_piece-in-Bytes, in-Nothing}

pub returns-in_err-count-clause-ends : goal.returns-in_err-count-clause-ends
returns-in_err-count-clause-ends g c =
    let (bytes, out, consumed, appended, kept, told) = c.loop.invariant.told in
    let (read, fault) = c.in_err-count.ensures.err in
    let p = err_from_is_err_and c.from_residual.result c.from_residual.ensures.1 in
    rw (p.1, p.2)
    (ends_reading g.M.Machine.answers (Unit {0}) _ _ _ _ _ _ _ _ c.read.new.self _ bytes out consumed c.in_err-count.ensures.kept appended told read c.loop.invariant.no_write _ (same_fault _ _ _ fault))

pub returns-in_err-serve_piece-in-Bytes-clause-ends : goal.returns-in_err-serve_piece-in-Bytes-clause-ends
returns-in_err-serve_piece-in-Bytes-clause-ends g c =
    let (bytes, out, consumed, appended, kept, told) = c.loop.invariant.told in
    let given = rw c.in-Bytes.is at c.in_ok-count.ensures.ok in
    let (part, written, cut) = c.in_err-serve_piece-in-Bytes.ensures.err _ kept in
    let moves = moves_cut g.M.Machine.answers _ _ _ _ _ _ _ _ _ bytes _ out part consumed given.1 appended written told cut in
    let p = err_from_is_err_and c.from_residual-in_err-serve_piece-in-Bytes.result c.from_residual-in_err-serve_piece-in-Bytes.ensures.1 in
    rw (p.1, p.2)
    (ends_amid g.M.Machine.answers _ _ _ _ _ _ _ c.read.new.self _ (c.in_ok-count.ensures.unfailed ∙ c.loop.invariant.no_read) _ moves c.in_err-serve_piece-in-Bytes.ensures.fault
    c.in_err-serve_piece-in-Bytes.ensures.ends)

pub returns-in-End-clause-ends : goal.returns-in-End-clause-ends
returns-in-End-clause-ends g c =
    let (bytes, out, consumed, appended, kept, told) = c.loop.invariant.told in
    let given = rw c.in-End.is at c.in_ok-count.ensures.ok in
    ends_whole g.M.Machine.answers _ _ _ _ _ _ _ _ _ (c.in_ok-count.ensures.unfailed ∙ c.loop.invariant.no_read) c.finish.result given.1 given.2
    (on_ok_weaker c.finish.result (λ last. let (rest, written, end) = last _ kept in
    moves_all g.M.Machine.answers _ _ _ _ _ _ _ _ _ bytes out rest consumed given.0 appended written told end) c.finish.ensures.ok)
    (on_err_weaker c.finish.result (λ last. let (part, written, end) = last _ kept in
    moves_short g.M.Machine.answers _ _ _ _ _ _ _ _ _ bytes out part consumed given.0 appended written told end) c.finish.ensures.err)
    c.finish.ensures.fault c.finish.ensures.unfailed c.finish.ensures.ends

pub loop-preserved : goal.loop-preserved
loop-preserved g c =
    let (bytes, out, consumed, appended, kept, told) = c.loop.invariant.told in
    elim c.match-branch-2.branch [
      | in-Bytes+in_ok-serve_piece-in-Bytes w ↦
          let given = rw w.in-Bytes.is at c.in_ok-count.ensures.ok in
          let (holds, (rest, written, more)) = w.in_ok-serve_piece-in-Bytes.ensures.ok _ kept in
          let piece = take w.in-Bytes.count c.read.new.piece in
          rw (w.writer-is, w.writes-is, w.machine-is, w.session-is) (record {
            made = omega arith;
            no_read = c.in_ok-count.ensures.unfailed ∙ c.loop.invariant.no_read;
            no_write = w.in_ok-serve_piece-in-Bytes.ensures.unfailed;
            room = w.serve_piece.ensures.room;
            none = w.in_ok-serve_piece-in-Bytes.ensures.none;
            told = (
              bytes ++ piece,
              out ++ rest,
              Consumes-trans _ _ _ _ _ consumed given.1,
              Appends-trans _ _ _ _ _ appended written,
              subst (Holds w.serve_piece.new.session.begun) (sym (rest-append [] bytes piece)) holds,
              told_piece g.M.Machine.answers _ _ _ bytes piece out rest told more,
            );
          })
      | in-Nothing w ↦
          let given = rw w.in-Nothing.is at c.in_ok-count.ensures.ok in
          rw (w.writer-is, w.writes-is, w.machine-is, w.session-is) (record {
            made = omega arith;
            no_read = c.in_ok-count.ensures.unfailed ∙ c.loop.invariant.no_read;
            no_write = c.loop.invariant.no_write;
            room = c.loop.invariant.room;
            none = c.loop.invariant.none;
            told = (bytes, out, Consumes-kept _ _ _ _ consumed given, appended, kept, told);
          })
    ]

pub returns-clause-ends : goal.returns-clause-ends
returns-clause-ends g c =
    let (bytes, out, consumed, appended, kept, told) = c.loop.invariant.told in
    ((bytes, out, consumed, appended, told), omega arith, c.loop.invariant.no_read, c.loop.invariant.no_write)
