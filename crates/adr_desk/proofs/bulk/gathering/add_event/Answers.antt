use Rattle.std.proofs.Common.{◌++◌, append-nil, ap, sym, ◌∙◌}
use Rattle.std.specs.Option.{option_copied}
use Rattle.adr_lines.specs.Grouped.{entries_under, written_event}
use Rattle.adr_desk.proofs.Choosing.{event_of, no_event}
use Rattle.adr_desk.proofs.Gathered.{none_numbered, one_numbered}
use Rattle.adr_desk.proofs.bulk.gathering.add_event.Goals as goal

pub returns-in_default-clause-entries : goal.returns-in_default-clause-entries
returns-in_default-clause-entries c k =
    let none = no_event _ (sym (ap option_copied c.in_default.is) ∙ c.event_by.ensures) in
    sym (append-nil (entries_under c.args.types.now.items k))
    ∙ ap (λ es. entries_under c.args.types.now.items k ++ es) (sym (none_numbered c.args.tie c.args.book.now.objects.events c.args.number k none))

pub returns-clause-entries : goal.returns-clause-entries
returns-clause-entries c k =
    let events = c.args.book.now.objects.events in
    let e = c.in-Some.event.now in
    let n = c.args.number in
    let found = event_of events n e (sym (ap option_copied c.in-Some.is) ∙ c.event_by.ensures) in
    c.in_ok-add_groups.ensures.entries k
    ∙ ap (λ es. entries_under c.args.types.now.items k ++ es) (c.in_ok-groups.ensures.entries k ∙ sym (one_numbered c.args.tie events n (written_event e n) k found))
