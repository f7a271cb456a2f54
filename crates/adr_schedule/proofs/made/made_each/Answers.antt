use Rattle.std.proofs.Common.{◌≡◌, flat_map, inl, inr, length, take, drop, refl, ap, sym, subst, ◌∙◌, arith}
use Rattle.std.specs.List.{AllZip}
use Rattle.std.proofs.lemmas.List.{length-map}
use Rattle.adr_model.specs.Lists.{In}
use Rattle.adr_group.specs.Jobs.{IsTaskDone}
use Rattle.adr_schedule.specs.Draft.{tasks_of}
use Rattle.adr_schedule.proofs.Drafts.{every_made, long_done, none_made, one_made, split_done}
use Rattle.adr_schedule.proofs.Shifts.{none_left}
use Rattle.adr_schedule.proofs.made.made_each.Goals as goal

pub rest-init : goal.rest-init
rest-init c = record { own = λ d m. m; made = λ indexes done. (done, none_made indexes c.args.drafts.now c.new-made.result.groups c.new-made.ensures) }

pub made_of-requires : goal.made_of-requires
made_of-requires c = record { own = c.requires.own c.in-Some.draft.now (c.rest.invariant.own c.in-Some.draft.now (subst (λ l. In c.in-Some.draft.now l) (sym c.in-Some.ensures.cases.0) (inl refl))) }

pub returns-then-left-jobs-clause-made : goal.returns-then-left-jobs-clause-made
returns-then-left-jobs-clause-made c indexes done =
    let draft = c.in-Some.draft.now in
    let before = c.rest.invariant.made indexes done in
    let jobs_done = subst (λ l. AllZip (IsTaskDone indexes) (flat_map tasks_of l) c.rest.left.now) c.in-Some.ensures.cases.0 before.0 in
    let long = long_done (IsTaskDone indexes) (tasks_of draft) (flat_map tasks_of c.in-Some.more.now) c.rest.left.now jobs_done in
    let jobs : length c.as_slice-windows.result.now ≡ length draft.windows.items = ap length c.as_slice-windows.ensures.value ∙ ap (λ v. length v.items) c.get.ensures in
    let same : length (tasks_of draft) ≡ length draft.windows.items = length-map draft.windows.items _ in
    absurd (omega (arith, long, jobs, same, c.if-left-jobs.true))

pub rest-preserved : goal.rest-preserved
rest-preserved c =
    let draft = c.in-Some.draft.now in
    let more = c.in-Some.more.now in
    let left = c.rest.left.now in
    record {
      own = λ d m. c.rest.invariant.own d (subst (λ l. In d l) (sym c.in-Some.ensures.cases.0) (inr m));
      made = λ indexes done.
          (let before = c.rest.invariant.made indexes done in
          let jobs_done = subst (λ l. AllZip (IsTaskDone indexes) (flat_map tasks_of l) left) c.in-Some.ensures.cases.0 before.0 in
          let parts = split_done (IsTaskDone indexes) (tasks_of draft) (flat_map tasks_of more) left jobs_done in
          let jobs : length c.as_slice-windows.result.now ≡ length draft.windows.items = ap length c.as_slice-windows.ensures.value ∙ ap (λ v. length v.items) c.get.ensures in
          let same : length (tasks_of draft) ≡ length draft.windows.items = length-map draft.windows.items _ in
          let own = c.split_at.ensures.front ∙ ap (λ n. take n left) (jobs ∙ sym same) in
          let others = c.split_at.ensures.back ∙ ap (λ n. drop n left) (jobs ∙ sym same) in (
            subst (λ l. AllZip (IsTaskDone indexes) (flat_map tasks_of more) l) (sym others) parts.1,
            one_made indexes c.args.drafts.now c.rest.rest.now more draft c.rest.made.groups c.in_ok-made.made.groups c.in_ok-group.group c.in-Some.ensures.cases.0 c.in_ok-made.ensures.groups
                (c.in_ok-group.ensures.made indexes (subst (λ l. AllZip (IsTaskDone indexes) (tasks_of draft) l) (sym own) parts.0)) before.1,
          ));
    }

pub returns-clause-made : goal.returns-clause-made
returns-clause-made c indexes done =
    every_made indexes c.args.drafts.now c.rest.rest.now c.rest.made.groups (none_left c.rest.rest.now c.in_default.ensures.cases) (c.rest.invariant.made indexes done).1
