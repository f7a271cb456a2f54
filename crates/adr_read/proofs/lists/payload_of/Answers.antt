use Rattle.std.proofs.Common.{ap}
use Rattle.std.specs.Prelude.{List}
use Rattle.std.proofs.lemmas.Result.{err_from_is_err_and}
use Rattle.adr_value.specs.declared.datum.Datum.{Datum}
use Rattle.adr_value.specs.declared.payload.PayloadType.{PayloadType}
use Rattle.adr_object.specs.declared.event.Payload.{Payload}
use Rattle.adr_read.proofs.Reading.{payload_gives, payload_refused}
use Rattle.adr_read.proofs.lists.payload_of.Goals as goal

abbrev made : PayloadType × List Datum → Payload
made p = record { kind = p.0; values = p.1 }

pub returns : goal.returns
returns c d gives =
    let p : Payload = record { kind = c.in_ok-kind.kind; values = c.in_ok-kind.values } in
    let parts = rw c.in_ok-kind.was at gives in
    rw c.in_ok-check.was at (payload_gives d p c.check.result parts.0 (ap made parts.1) (rw c.as_slice.ensures.value at c.check.ensures))

pub returns-in_err-check : goal.returns-in_err-check
returns-in_err-check c d gives =
    let p : Payload = record { kind = c.in_ok-kind.kind; values = c.in_ok-kind.values } in
    let parts = rw c.in_ok-kind.was at gives in
    let out = err_from_is_err_and c.from_residual-in_err-check.result c.from_residual-in_err-check.ensures.1 in
    rw (out.1, out.2) (rw c.in_err-check.was at (payload_gives d p c.check.result parts.0 (ap made parts.1) (rw c.as_slice.ensures.value at c.check.ensures)))

pub returns-in_err-kind : goal.returns-in_err-kind
returns-in_err-kind c d gives =
    let out = err_from_is_err_and c.from_residual.result c.from_residual.ensures.1 in
    rw (out.1, out.2) (payload_refused d c.in_err-kind.field-0.0 (rw c.in_err-kind.was at gives))
