use Rattle.std.proofs.Common.{rules, ◌≡◌, ◌+◌, ◌*◌, ◌≤◌, ap, ◌∙◌, leb-true, length, List, arith}
use Rattle.std.specs.Option.{option_copied}
use Rattle.adr_model.specs.declared.entry.Entry.{Entry}
use Rattle.adr_model.specs.Entries.{meeting}
use Rattle.adr_lines.specs.Right.{written_in}
use Rattle.adr_group.specs.Repair.{indexed}
use Rattle.adr_group.proofs.Enough.{part_compares, saturated}
use Rattle.adr_group.proofs.met.compares_enough.Goals as goal

pub returns-clause-enough : goal.returns-clause-enough
returns-clause-enough c h =
    let given = c.args.given.now in
    let writes = given.writes.now in
    let entries = indexed (option_copied given.index) in
    let found = c.in_ok-found.found.items in
    let met : found ≡ meeting (written_in writes entries) c.common.result = c.in_ok-found.ensures.met in
    let counted : c.len-count.result ≡ length found = search rules in
    let same : c.len-count.result ≡ length (meeting (written_in writes entries) c.common.result) = counted ∙ ap (λ (es : List Entry). length es) met in
    let most = saturated c.len-count.result c.saturating_mul.result c.saturating_add.result c.saturating_mul-most.result _ c.saturating_mul.ensures c.saturating_add.ensures c.saturating_mul-most.ensures in
    let few = leb-true _ _ h in
    let enough : c.args.wanted ≤ c.len-count.result * (2 * c.len-count.result + 1) = omega (arith, few, most) in
    part_compares writes entries c.args.windows.now c.in-Some.window.now c.in-Some.field-0-1.now c.common.result c.args.wanted c.in-Some.ensures.cases.0 c.common.ensures.meets (rw same at enough)
