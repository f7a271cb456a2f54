use Rattle.std.proofs.Common.{rules, ◌≡◌, ◌∙◌, List, [], sym, subst, vec_len}
use Rattle.std.specs.Vec.Iter.{into_iter_items}
use Rattle.std.proofs.lemmas.List.{nil_from_length}
use Rattle.std.proofs.lemmas.List.Elements.{All-rest}
use Rattle.adr_board.specs.declared.run_steps.Step.{Step}
use Rattle.adr_board.specs.declared.run_steps.Shown.{Shown}
use Rattle.adr_board.specs.Replay.{NamesReader}
use Rattle.adr_board.proofs.Runs.{LeadsOn, leads_last, leads_next}
use Rattle.adr_board.proofs.run.take_steps.Goals as goal

pub loop-step-preserved : goal.loop-step-preserved
loop-step-preserved g c =
    let was = c.loop-step.invariant in
    let rest = c.in-Some.ensures.steps.0 in
    let b = c.args.editor.now in
    let views = c.args.readers.now.items in
    let steps = c.args.steps.items in
    let shown = c.loop-step.shown.items in
    let after = c.take_step.new in
    let left = into_iter_items c.next.new.self in
    let leads = subst (λ (l : List Step). LeadsOn b views steps shown c.loop-step.editor c.loop-step.readers.items l) rest was.2 in
    let grown = leads_next b c.loop-step.editor after.editor views c.loop-step.readers.items after.readers.items steps left c.in-Some.step shown c.in_ok-next.next leads c.in_ok-next.ensures.step in (
      c.take_step.ensures.count ∙ was.0,
      All-rest (NamesReader (vec_len c.args.readers.now)) c.in-Some.step left (into_iter_items c.loop-step.step-iterator) rest was.1,
      subst (λ (l : List Shown). LeadsOn b views steps l after.editor after.readers.items left) (sym c.in_ok-push.ensures.items) grown,
    )

pub returns-clause-steps : goal.returns-clause-steps
returns-clause-steps g c =
    let b = c.args.editor.now in
    let views = c.args.readers.now.items in
    let steps = c.args.steps.items in
    let shown = c.loop-step.shown.items in
    let none : into_iter_items c.loop-step.step-iterator ≡ [] = nil_from_length (into_iter_items c.loop-step.step-iterator) (search rules) in
    leads_last b c.loop-step.editor views c.loop-step.readers.items steps shown (subst (λ (l : List Step). LeadsOn b views steps shown c.loop-step.editor c.loop-step.readers.items l) none c.loop-step.invariant.2)
