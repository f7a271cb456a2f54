use Rattle.std.proofs.Common.{ap, sym, ◌∙◌}
use Rattle.adr_lines.specs.Grouped.{any_covers_at, entries_under}
use Rattle.adr_group.specs.Group.{Lines}
use Rattle.adr_desk.specs.Bulk.{chosen}
use Rattle.adr_desk.proofs.Owning.{own_windows, right_of_all}
use Rattle.adr_desk.proofs.bulk.grouping.group_for.Goals as goal

pub returns-clause-group : goal.returns-clause-group
returns-clause-group c =
    let events = c.args.book.now.objects.events in
    let numbers = c.numbers.result.now in
    let same = c.in_ok-writes.ensures ∙ sym c.numbers.ensures.numbers in
    let none = ap (λ (x : Lines). x.writes) c.in_ok-none.ensures.empty in
    let held = own_windows events numbers c.in_ok-types.types.items c.as_slice-2.result.now c.in_ok-none.none.writes c.in_ok-writes.writes none same c.in_ok-types.ensures.windows
    (λ k t h.
    ap (λ gs. any_covers_at (entries_under gs k) t) c.as_slice-2.ensures.value
    ∙ c.in_ok-windows.ensures.covers k t (ap (λ gs. any_covers_at (entries_under gs k) t) c.as_slice.ensures.value ∙ h)) in (
      c.in_ok-group.ensures.writes ∙ c.in_ok-writes.ensures,
      right_of_all c.args.tie events numbers (c.right_moves.ensures c.args.tie) c.in_ok-group.group (c.in_ok-group.ensures.writes ∙ same)
          (c.in_ok-group.ensures.right c.args.tie (chosen events numbers) (c.in_ok-types.ensures.indexed c.in_ok-indexes.indexes c.in_ok-indexes.ensures.entries) held (c.in_ok-none.ensures.right c.args.tie (chosen events numbers))),
    )
