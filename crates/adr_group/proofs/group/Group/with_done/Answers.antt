use Rattle.std.proofs.Common.{if◌then◌else◌, ap, sym, ◌∙◌}
use Rattle.adr_lines.specs.Grouped.{entries_under}
use Rattle.adr_lines.specs.Indexes.{has_type}
use Rattle.adr_lines.specs.Right.{among, winner_under}
use Rattle.adr_group.specs.Group.{shown_in, Lines}
use Rattle.adr_group.proofs.Rights.{repaired_right}
use Rattle.adr_group.proofs.Tasks.{all_then, right_before, shown_all, shown_then, then_of_type}
use Rattle.adr_group.proofs.group.Group.with_done.Goals as goal

pub returns-clause-right : goal.returns-clause-right
returns-clause-right c indexes own done tie events indexed within before k t =
    let group = c.args.self.now in
    let windows = c.args.windows.now in
    let writes = c.args.writes.now in
    let each = all_then indexes group writes windows own (right_before tie events indexes group indexed before) c.args.done.now done in
    repaired_right group.writes writes (entries_under windows) indexes group.lines c.in_ok-lines.lines tie
    (λ k t. shown_all indexes group writes windows k t (shown_in c.in_ok-lines.lines k t)
    (c.in_ok-lines.ensures.shown (shown_then indexes group writes windows) (then_of_type indexes group writes windows) each k t
    ∙ ap (λ (g : Lines). if has_type windows k then shown_then indexes group writes windows k t else shown_in g.lines k t) c.self.view_is))
    events indexed within before k t
    ∙ ap (λ ns. winner_under tie (among events ns k) t) (sym c.in_ok-writes.ensures)
