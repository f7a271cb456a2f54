use Rattle.std.proofs.Common.{◌≡◌, ap, sym, subst, ◌∙◌, arith}
use Rattle.std.proofs.lemmas.Result.{IfOk-weaker}
use Rattle.adr_lines.specs.Grouped.{entries_under}
use Rattle.adr_group.specs.Group.{AreWindowsOf, Lines}
use Rattle.adr_group.specs.Repair.{most_repaired}
use Rattle.adr_schedule.proofs.Seated.{none_is_some, some_same}
use Rattle.adr_regroup.specs.Compared.{cost_but}
use Rattle.adr_regroup.proofs.spot.with_writes.Goals as goal

pub unreachable-requires : goal.unreachable-requires
unreachable-requires g c =
    let held = c.schedule_laws.ensures c.args.spot.place c.requires.within in
    none_is_some held.0 (c.in_default-group.ensures.value ∙ held.1)

pub returns-clause-right : goal.returns-clause-right
returns-clause-right g c =
    let basis = c.args.basis.now in
    let events = basis.new.now.objects.events in
    let group : Lines = c.in-Some-group.group.now in
    let new = c.args.writes.now in
    let within = subst (λ ns. AreWindowsOf events ns new (entries_under c.in_ok-windows.windows.items)) c.writes.ensures c.in_ok-windows.ensures.windows in
    let inside = subst (λ gs. AreWindowsOf events group.writes new (entries_under gs)) (sym c.deref.ensures.value) within in
    IfOk-weaker c.rewritten.result _ _
    (λ after right indexed before. right basis.tie events indexed
    (λ g at. subst (λ (x : Lines). AreWindowsOf events x.writes new (entries_under c.deref.result.now)) (some_same group g (c.in-Some-group.ensures.value ∙ at)) inside) before)
    c.rewritten.ensures.right

pub returns-clause-least : goal.returns-clause-least
returns-clause-least g c lines cost at bound =
    let basis = c.args.basis.now in
    let events = basis.new.now.objects.events in
    let new = c.args.writes.now in
    let same : c.writes.result.now ≡ lines.writes = c.writes.ensures ∙ ap (λ (x : Lines). x.writes) (some_same c.in-Some-group.group.now lines (c.in-Some-group.ensures.value ∙ at)) in
    let least = c.in_ok-windows.ensures.least basis.indexes.now new cost bound in
    let first = ap (λ ns. cost_but cost events ns new) same in
    let second = ap (λ ns. cost_but cost events new ns) same in
    let whole = ap (λ gs. most_repaired gs new basis.indexes.now) c.deref.ensures.value in
    omega (arith, least, first, second, whole, c.rewritten.ensures.least)
