use Rattle.std.proofs.Common.{ℕ, ◌<◌, ◌&&◌, [], get_or, length, filter, ap, ◌∙◌, arith}
use Rattle.std.specs.List.{range_with_len}
use Rattle.std.proofs.lemmas.Result.{IfOk-weaker}
use Rattle.adr_keys.specs.Places.{has}
use Rattle.adr_keys.specs.Rows.{offers_key}
use Rattle.adr_audience.specs.Query.{is_for, meets, meets_value}
use Rattle.adr_audience.proofs.Queried.{filter-range}
use Rattle.adr_audience.proofs.query.places_for.Goals as goal

pub returns-clause-ok : goal.returns-clause-ok
returns-clause-ok c =
    let e = c.args.event.now in
    let p = c.args.program.now in
    let rows = c.args.index.now in
    let offered = λ (q : ℕ). offers_key (get_or rows q []) in
    IfOk-weaker c.list.result _ _
    (λ places is. is ∙ filter-range (has c.narrow-2.new.found) (λ q. is_for e p (offered q)) 0 c.len-2.result
    (λ q m. let l : q < length rows = omega (arith, c.len-2.ensures) in c.in_ok-narrow-2.ensures.ok q l
    ∙ ap (λ ts. has c.narrow.new.found q && meets (meets_value e p (offered q)) ts) c.as_slice-2.ensures.value
    ∙ ap (λ b. b && meets (meets_value e p (offered q)) p.targets)
    (c.in_ok-narrow.ensures.ok q l ∙ ap (λ ts. has c.in_ok-found.found q && meets (meets_value e p (offered q)) ts) c.as_slice.ensures.value
    ∙ ap (λ b. b && meets (meets_value e p (offered q)) e.targets) (c.in_ok-found.ensures.full q (omega (arith, l, c.len.ensures)))))
    ∙ ap (λ n. filter (λ q. is_for e p (offered q)) (range_with_len 0 n)) c.len-2.ensures)
    c.list.ensures.ok
