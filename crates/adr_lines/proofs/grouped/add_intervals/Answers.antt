use Rattle.std.proofs.Common.{◌∙◌, sym, ap, ◌++◌, append-nil, List}
use Rattle.adr_model.specs.declared.entry.Entry.{Entry}
use Rattle.adr_lines.specs.Grouped.{entries_under, written_event}
use Rattle.adr_lines.proofs.Intervals.{no_place}
use Rattle.adr_lines.proofs.grouped.add_intervals.Goals as goal

pub returns-clause-entries : goal.returns-clause-entries
returns-clause-entries c k =
    sym (append-nil (entries_under c.rest.groups.items k))
    ∙ ap (λ (es : List Entry). entries_under c.rest.groups.items k ++ es)
    (sym (no_place c.args.tie (written_event c.args.event.now c.args.written) c.rest.intervals.now c.rest.places.now k c.in_default.ensures.cases))
    ∙ c.rest.invariant.entries k
