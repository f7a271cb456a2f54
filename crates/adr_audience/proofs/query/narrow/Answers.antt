use Rattle.std.proofs.Common.{◌&&◌, take, ap, sym, ◌∙◌, get_or, []}
use Rattle.adr_keys.specs.Places.{has}
use Rattle.adr_keys.specs.Rows.{offers_key}
use Rattle.std.proofs.lemmas.List.{take_all}
use Rattle.adr_object.specs.declared.event.Target.{Target}
use Rattle.std.specs.List.{list_all}
use Rattle.adr_audience.specs.Query.{meets_value, meets_type}
use Rattle.adr_audience.proofs.Queried.{and_true, and_more, all_more}
use Rattle.adr_audience.proofs.query.narrow.Goals as goal

pub loop-target-init : goal.loop-target-init
loop-target-init c = λ p h. sym (and_true (has c.args.found.now p))

pub loop-target-preserved : goal.loop-target-preserved
loop-target-preserved c = λ p h.
    let ts = c.args.targets.now in
    let i = c.loop-target.target-index in
    let t = c.target-item.result in
    let test = λ (u : Target). meets_type (meets_value c.args.event.now c.args.program.now (offers_key (get_or c.args.index.now p []))) ts u.kind in
    c.in_ok-narrow_type.ensures.ok p h ∙ ap (λ b. b && test t) (c.loop-target.invariant p h)
    ∙ and_more (has c.args.found.now p) (list_all test (take i ts)) (test t)
    ∙ ap (λ b. has c.args.found.now p && b) (sym (all_more test ts i t c.loop-target-test.true c.target-item.is))

pub returns-clause-ok : goal.returns-clause-ok
returns-clause-ok c = λ p h.
    let ts = c.args.targets.now in
    let test = λ (u : Target). meets_type (meets_value c.args.event.now c.args.program.now (offers_key (get_or c.args.index.now p []))) ts u.kind in
    c.loop-target.invariant p h ∙ ap (λ xs. has c.args.found.now p && list_all test xs) (take_all c.loop-target.target-index ts c.loop-target-test.false)
