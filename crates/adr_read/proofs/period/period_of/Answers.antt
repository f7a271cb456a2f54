use Rattle.std.proofs.Common.{◌++◌, Option, option_map, unwrap_or, ap}
use Rattle.std.specs.Prelude.{ℤ, pos}
use Rattle.std.proofs.lemmas.Result.{err_from_is_err_and}
use Rattle.serde_json.specs.Data.{null}
use Rattle.adr_time.specs.declared.length.Length.{Length}
use Rattle.adr_object.specs.declared.event.Period.{Period}
use Rattle.adr_read.specs.Sets.{required, optional}
use Rattle.adr_read.specs.Periods.{start_faults, start_in, length_faults, length_in}
use Rattle.adr_read.specs.declared.from_value.Context.{Context}
use Rattle.adr_read.proofs.period.period_of.Goals as goal

abbrev made : (ℤ × Option Length) × Option Length → Period
made p = record { start = p.0.0; duration = p.0.1; randomize = p.1 }

pub returns : goal.returns
returns c moment s d r hs hd hr =
    let context : Context = record { moment = moment; place = pos 0 } in
    let one = c.both.ensures (required start_faults s) (optional length_faults d) (start_in moment (unwrap_or s null)) (option_map length_in d) (c.required.ensures context s hs) (c.optional.ensures context d hd) in
    let two = c.in_ok-start.ensures (required start_faults s ++ optional length_faults d) (optional length_faults r) (start_in moment (unwrap_or s null), option_map length_in d) (option_map length_in r) one (c.optional-2.ensures context r hr) in
    (two.0, ap made two.1)

pub returns-in_err-start : goal.returns-in_err-start
returns-in_err-start c moment s d r hs hd hr =
    let context : Context = record { moment = moment; place = pos 0 } in
    let one = c.both.ensures (required start_faults s) (optional length_faults d) (start_in moment (unwrap_or s null)) (option_map length_in d) (c.required.ensures context s hs) (c.optional.ensures context d hd) in
    let out = err_from_is_err_and c.from_residual.result c.from_residual.ensures.1 in
    rw (out.1, out.2) (c.in_err-start.ensures (required start_faults s ++ optional length_faults d) (optional length_faults r) (start_in moment (unwrap_or s null), option_map length_in d) (option_map length_in r) one (c.optional-2.ensures context r hr))
