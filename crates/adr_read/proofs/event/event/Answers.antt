use Rattle.std.proofs.Common.{◌∙◌, List, ℕ, Option, option_map, unwrap_or, codes, ap}
use Rattle.std.specs.Prelude.{pos}
use Rattle.std.proofs.lemmas.Result.{err_from_is_err_and}
use Rattle.serde_json.specs.Data.{null}
use Rattle.adr_object.specs.declared.event.Event.{Event}
use Rattle.adr_object.specs.declared.event.Interval.{Interval}
use Rattle.adr_object.specs.declared.event.Period.{Period}
use Rattle.adr_object.specs.declared.event.Target.{Target}
use Rattle.adr_read.specs.Looking.{member_at}
use Rattle.adr_read.specs.Sets.{list_in}
use Rattle.adr_read.specs.Values.{text_in, priority_in}
use Rattle.adr_read.specs.Periods.{period_in, interval_in}
use Rattle.adr_read.specs.Objects.{common_faults, own_targets, event_head_faults, event_tail_faults, event_faults_by, event_in}
use Rattle.adr_read.proofs.event.event.Goals as goal

abbrev Head : Type 0
Head = ((Unit {0} × List ℕ) × Option (List ℕ)) × Option ℕ

abbrev Tail : Type 0
Tail = (List Target × Option Period) × List Interval

abbrev made : List ℕ → Head × Tail → Event
made id p = record {
  id = id;
  program_id = p.0.0.0.1;
  event_name = p.0.0.1;
  priority = p.0.1;
  targets = p.1.0.0;
  interval_period = p.1.0.1;
  intervals = p.1.1;
}

pub returns : goal.returns
unfolding event_faults_by event_in
returns c moment d hk hi ht hp hn hr hq hs =
    let k = member_at (codes "objectType") d in
    let i = member_at (codes "id") d in
    let t = member_at (codes "targets") d in
    let p = member_at (codes "programID") d in
    let n = member_at (codes "eventName") d in
    let r = member_at (codes "priority") d in
    let q = member_at (codes "intervalPeriod") d in
    let s = member_at (codes "intervals") d in
    let head : Head = (((tt, text_in (unwrap_or p null)), option_map text_in n), option_map priority_in r) in
    let tail : Tail = ((own_targets d, option_map (period_in moment) q), list_in (λ place. interval_in moment (pos place)) (unwrap_or s null)) in
    let first = c.head_of-head.ensures (common_faults (codes "EVENT") c.args.id.now d) p n r (c.check_line-line.ensures k i hk hi) hp hn hr in
    let last = c.tail_of-tail.ensures moment t q s ht hq hs in
    let all = c.in_ok-program_id.ensures (event_head_faults c.args.id.now d) (event_tail_faults d) head tail first last in
    let with_id = λ (id : List ℕ). made id ((((tt, c.in_ok-program_id.program_id), c.in_ok-program_id.event_name), c.in_ok-program_id.priority), ((c.in_ok-program_id.targets, c.in_ok-program_id.interval_period), c.in_ok-program_id.intervals)) in
    (all.0, ap with_id c.in_ok-copy.ensures ∙ ap (made c.args.id.now) all.1)

pub returns-in_err-program_id : goal.returns-in_err-program_id
unfolding event_faults_by event_in
returns-in_err-program_id c moment d hk hi ht hp hn hr hq hs =
    let k = member_at (codes "objectType") d in
    let i = member_at (codes "id") d in
    let t = member_at (codes "targets") d in
    let p = member_at (codes "programID") d in
    let n = member_at (codes "eventName") d in
    let r = member_at (codes "priority") d in
    let q = member_at (codes "intervalPeriod") d in
    let s = member_at (codes "intervals") d in
    let head : Head = (((tt, text_in (unwrap_or p null)), option_map text_in n), option_map priority_in r) in
    let tail : Tail = ((own_targets d, option_map (period_in moment) q), list_in (λ place. interval_in moment (pos place)) (unwrap_or s null)) in
    let first = c.head_of-head.ensures (common_faults (codes "EVENT") c.args.id.now d) p n r (c.check_line-line.ensures k i hk hi) hp hn hr in
    let last = c.tail_of-tail.ensures moment t q s ht hq hs in
    let out = err_from_is_err_and c.from_residual.result c.from_residual.ensures.1 in
    rw (out.1, out.2) (c.in_err-program_id.ensures (event_head_faults c.args.id.now d) (event_tail_faults d) head tail first last)
