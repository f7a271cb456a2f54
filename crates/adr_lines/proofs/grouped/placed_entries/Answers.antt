use Rattle.std.proofs.Common.{◌∙◌, ◌++◌, ap, sym, subst, List}
use Rattle.adr_model.specs.declared.entry.Placed.{Placed}
use Rattle.adr_lines.specs.Grouped.{entries_at, entries_under, written_event, HaveOwnTypes}
use Rattle.adr_lines.specs.declared.grouped.TypeEntries.{TypeEntries}
use Rattle.adr_lines.proofs.Intervals.{entries_are}
use Rattle.adr_lines.proofs.Groups.{no_types}
use Rattle.adr_lines.proofs.grouped.placed_entries.Goals as goal

pub add_intervals-requires : goal.add_intervals-requires
add_intervals-requires c = subst HaveOwnTypes (sym c.new-groups.ensures.items) no_types

pub returns-clause-entries : goal.returns-clause-entries
returns-clause-entries c k =
    let w = written_event c.args.event.now c.args.written in
    c.in_ok-add_intervals.ensures.entries k
    ∙ ap (λ (gs : List TypeEntries). entries_under gs k ++ entries_at c.args.tie w c.args.event.now.intervals c.args.places.now k) c.new-groups.ensures.items
    ∙ ap (λ (ps : List Placed). entries_at c.args.tie w c.args.event.now.intervals ps k) c.requires
    ∙ entries_are c.args.tie k w
