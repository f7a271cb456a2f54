use Rattle.std.proofs.Common.{◌∙◌, sym, ap, ◌++◌, append-nil, List}
use Rattle.adr_model.specs.declared.entry.Entry.{Entry}
use Rattle.adr_plain.specs.Scan.{written_event}
use Rattle.adr_plain.proofs.Placing.{no_place}
use Rattle.adr_plain.proofs.entries.add_placed.Goals as goal

pub returns-clause-ok : goal.returns-clause-ok
returns-clause-ok c =
    sym (append-nil c.rest.entries.items)
    ∙ ap (λ (es : List Entry). c.rest.entries.items ++ es) (sym (no_place c.args.payload_type.now (written_event c.args.event.now c.args.written) c.rest.intervals.now c.rest.places.now c.in_default.ensures.cases))
    ∙ c.rest.invariant
