use Rattle.std.proofs.Common.{[], inl, inr, refl, sym, subst}
use Rattle.std.specs.List.{AllZip}
use Rattle.adr_model.specs.Lists.{In}
use Rattle.adr_group.specs.Jobs.{tasks_for, IsJobOf}
use Rattle.adr_schedule.specs.Draft.{tasks_of}
use Rattle.adr_schedule.proofs.Drafts.{every_job, one_job}
use Rattle.adr_schedule.proofs.Shifts.{none_left}
use Rattle.adr_schedule.proofs.made.exchange_jobs.Goals as goal

pub exchange_job-requires-clause-own : goal.exchange_job-requires-clause-own
exchange_job-requires-clause-own g c =
    c.rest.invariant.own c.in-Some.windows.now (subst (λ l. In c.in-Some.windows.now l) (sym c.in-Some.ensures.cases.0) (inl refl))

pub rest-preserved : goal.rest-preserved
rest-preserved g c =
    let draft = c.args.draft.now in
    let windows = c.in-Some.windows.now in
    record {
      own = λ w m. c.rest.invariant.own w (subst (λ l. In w l) (sym c.in-Some.ensures.cases.0) (inr m));
      jobs = λ laid more zip. one_job (IsJobOf c.args.indexes.now) (tasks_of draft) (tasks_for draft.group draft.writes c.in-Some.more.now)
          (record { group = draft.group; writes = draft.writes; windows = windows })
          c.rest.jobs.items c.push.new.self.items more c.in_ok-job.job c.in_ok-push.ensures.items (c.in_ok-job.ensures.job laid)
          (λ ms z. c.rest.invariant.jobs laid ms (subst (λ l. AllZip (IsJobOf c.args.indexes.now) (tasks_for draft.group draft.writes l) ms) (sym c.in-Some.ensures.cases.0) z))
          zip;
    }

pub returns-clause-jobs : goal.returns-clause-jobs
returns-clause-jobs g c laid =
    let draft = c.args.draft.now in
    every_job (IsJobOf c.args.indexes.now) (tasks_of draft) c.rest.jobs.items
    (c.rest.invariant.jobs laid [] (subst (λ l. AllZip (IsJobOf c.args.indexes.now) (tasks_for draft.group draft.writes l) []) (sym (none_left c.rest.rest.now c.in_default.ensures.cases)) tt))
