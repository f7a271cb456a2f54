use Rattle.std.proofs.Common.{if◌then◌else◌, ap, sym, ◌∙◌}
use Rattle.adr_lines.specs.Indexes.{has_type}
use Rattle.adr_group.specs.Group.{shown_in}
use Rattle.adr_group.proofs.Jobs.{none_left}
use Rattle.adr_group.proofs.repair.together.Goals as goal

pub rest-init : goal.rest-init
rest-init c shown of_type made =
    (made, λ k t. ap (λ ls. if has_type c.args.windows.now k then shown k t else shown_in ls k t) c.in_ok-lines.ensures)

pub returns-clause-shown : goal.returns-clause-shown
returns-clause-shown c shown of_type made k t =
    ap (λ gs. if has_type gs k then shown k t else shown_in c.rest.lines k t) (sym (none_left c.rest.rest.now c.in_default.ensures.cases))
    ∙ (c.rest.invariant shown of_type made).1 k t
