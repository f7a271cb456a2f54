use Rattle.std.specs.Prelude.{Err}
use Rattle.adr_refusal.proofs.Judged.{answers}
use Rattle.adr_model.specs.Edits.{faults_to, made, step_by}
use Rattle.adr_book.specs.Judged.{layout_faults_of}
use Rattle.adr_book.proofs.Verdict.{laid_out, layout_verdict}
use Rattle.adr_book.proofs.judging.judge_on.Goals as goal

pub returns-in-Ok-clause-answer : goal.returns-in-Ok-clause-answer
unfolding step_by
returns-in-Ok-clause-answer c =
    let book = c.args.objects.now in
    let edit = c.args.edit.now in
    layout_verdict c.layout_of-layout.result (layout_faults_of edit) (faults_to c.args.full book edit) (made book edit) c.layout_of-layout.ensures.faults
    (laid_out c.args.full book edit c.in-Ok.ensures.0) c.in-Ok.ensures.0

pub returns-in-Err-clause-answer : goal.returns-in-Err-clause-answer
unfolding step_by
returns-in-Err-clause-answer c =
    let book = c.args.objects.now in
    let edit = c.args.edit.now in
    answers (Err c.in-Err.refusal) (faults_to c.args.full book edit) (made book edit) c.in-Err.ensures
