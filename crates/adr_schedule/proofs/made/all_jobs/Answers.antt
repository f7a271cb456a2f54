use Rattle.std.proofs.Common.{[], flat_map, inl, inr, refl, sym, subst}
use Rattle.std.specs.List.{AllZip}
use Rattle.adr_model.specs.Lists.{In}
use Rattle.adr_group.specs.Jobs.{IsJobOf}
use Rattle.adr_schedule.specs.Draft.{tasks_of}
use Rattle.adr_schedule.proofs.Drafts.{every_job, more_jobs}
use Rattle.adr_schedule.proofs.Shifts.{none_left}
use Rattle.adr_schedule.proofs.made.all_jobs.Goals as goal

pub jobs_of-requires : goal.jobs_of-requires
jobs_of-requires g c = record {
  draft = c.requires.drafts c.in-Some.draft.now (c.rest.invariant.own c.in-Some.draft.now (subst (λ l. In c.in-Some.draft.now l) (sym c.in-Some.ensures.cases.0) (inl refl)));
}

pub rest-preserved : goal.rest-preserved
rest-preserved g c = record {
  own = λ d m. c.rest.invariant.own d (subst (λ l. In d l) (sym c.in-Some.ensures.cases.0) (inr m));
  jobs = λ laid more zip. more_jobs (IsJobOf c.args.indexes.now) (flat_map tasks_of c.args.drafts.now) (tasks_of c.in-Some.draft.now) (flat_map tasks_of c.in-Some.more.now)
      c.rest.jobs.items c.append.new.self.items c.in_ok-own.own.items more c.in_ok-append.ensures.items (c.in_ok-own.ensures.jobs laid)
      (λ ms z. c.rest.invariant.jobs laid ms (subst (λ l. AllZip (IsJobOf c.args.indexes.now) (flat_map tasks_of l) ms) (sym c.in-Some.ensures.cases.0) z))
      zip;
}

pub returns-clause-jobs : goal.returns-clause-jobs
returns-clause-jobs g c laid =
    every_job (IsJobOf c.args.indexes.now) (flat_map tasks_of c.args.drafts.now) c.rest.jobs.items
    (c.rest.invariant.jobs laid [] (subst (λ l. AllZip (IsJobOf c.args.indexes.now) (flat_map tasks_of l) []) (sym (none_left c.rest.rest.now c.in_default.ensures.cases)) tt))
