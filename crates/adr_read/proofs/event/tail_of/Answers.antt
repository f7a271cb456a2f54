use Rattle.std.proofs.Common.{◌++◌, [], option_map, unwrap_or}
use Rattle.std.specs.Prelude.{pos}
use Rattle.serde_json.specs.Data.{null}
use Rattle.adr_value.specs.declared.limits.TheConstants.{MOST_INTERVALS}
use Rattle.adr_read.specs.Sets.{required, optional, list_faults, list_in}
use Rattle.adr_read.specs.Values.{targets_faults, targets_in}
use Rattle.adr_read.specs.Periods.{period_faults, period_in, interval_faults, interval_in}
use Rattle.adr_read.specs.declared.from_value.Context.{Context}
use Rattle.adr_read.proofs.event.tail_of.Goals as goal

pub returns : goal.returns
returns c moment t p s ht hp hs =
    let context : Context = record { moment = moment; place = pos 0 } in
    let targets = unwrap_or (option_map targets_in t) [] in
    let period = option_map (period_in moment) p in
    let one = c.both-targets.ensures (optional targets_faults t) (optional period_faults p) targets period (c.targets_of.ensures t ht) (c.optional.ensures context p hp) in
    c.both.ensures (optional targets_faults t ++ optional period_faults p) (required (list_faults MOST_INTERVALS interval_faults) s) (targets, period) (list_in (λ place. interval_in moment (pos place)) (unwrap_or s null)) one (c.required.ensures context s hs)
