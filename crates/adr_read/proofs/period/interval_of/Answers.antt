use Rattle.std.proofs.Common.{◌≡◌, ◌++◌, ◌∙◌, List, Option, option_map, unwrap_or, ap, rules}
use mir.Syntax.{w64}
use mir.Val.{to_z, of_z}
use Rattle.std.specs.Prelude.{ℤ, pos}
use Rattle.std.proofs.lemmas.Result.{err_from_is_err_and}
use Rattle.serde_json.specs.Data.{null}
use Rattle.adr_object.specs.declared.event.Interval.{Interval}
use Rattle.adr_object.specs.declared.event.Payload.{Payload}
use Rattle.adr_object.specs.declared.event.Period.{Period}
use Rattle.adr_read.specs.Sets.{required, optional, list_faults, list_in}
use Rattle.adr_read.specs.Values.{interval_id_faults, interval_id_in, payload_faults, payload_in}
use Rattle.adr_read.specs.Periods.{period_faults, period_in}
use Rattle.adr_read.specs.declared.from_value.Context.{Context}
use Rattle.adr_read.proofs.period.interval_of.Goals as goal

abbrev made : ℤ → (Option ℤ × Option Period) × List Payload → Interval
made place p = record { id = unwrap_or p.0.0 place; period = p.0.1; payloads = p.1 }

pub returns : goal.returns
returns c i p s hi hp hs =
    let moment = c.args.context.now.moment in
    let context : Context = record { moment = moment; place = pos 0 } in
    let payloads = list_in (λ _. payload_in) (unwrap_or s null) in
    let one = c.both.ensures (optional interval_id_faults i) (optional period_faults p) (option_map interval_id_in i) (option_map (period_in moment) p) (c.optional.ensures context i hi) (c.optional-2.ensures context p hp) in
    let two = c.in_ok-id.ensures (optional interval_id_faults i ++ optional period_faults p) (required (list_faults 64 payload_faults) s) (option_map interval_id_in i, option_map (period_in moment) p) payloads one (c.required.ensures context s hs) in
    let id : to_z w64 (of_z w64 c.unwrap_or.result) ≡ unwrap_or c.in_ok-id.id c.args.context.now.place = search rules in (
      two.0,
      ap (λ z. record { id = z; period = c.in_ok-period.period; payloads = c.in_ok-id.payloads }) id
          ∙ ap (λ q. record { id = unwrap_or c.in_ok-id.id c.args.context.now.place; period = q; payloads = c.in_ok-id.payloads }) c.in_ok-period.ensures
          ∙ ap (made c.args.context.now.place) two.1,
    )

pub returns-in_err-id : goal.returns-in_err-id
returns-in_err-id c i p s hi hp hs =
    let moment = c.args.context.now.moment in
    let context : Context = record { moment = moment; place = pos 0 } in
    let payloads = list_in (λ _. payload_in) (unwrap_or s null) in
    let one = c.both.ensures (optional interval_id_faults i) (optional period_faults p) (option_map interval_id_in i) (option_map (period_in moment) p) (c.optional.ensures context i hi) (c.optional-2.ensures context p hp) in
    let out = err_from_is_err_and c.from_residual.result c.from_residual.ensures.1 in
    rw (out.1, out.2) (c.in_err-id.ensures (optional interval_id_faults i ++ optional period_faults p) (required (list_faults 64 payload_faults) s) (option_map interval_id_in i, option_map (period_in moment) p) payloads one (c.required.ensures context s hs))
