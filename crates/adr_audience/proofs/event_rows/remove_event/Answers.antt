use Rattle.std.proofs.Common.{◌<◌, length, remove, ap, sym, subst, ◌∙◌}
use Rattle.adr_object.specs.declared.object.Kind.TheVariants.{Event as event_kind}
use Rattle.adr_model.specs.Book.{event_by}
use Rattle.adr_audience.proofs.Followed.{not_missing, removed_is_there, row_of_event, asks_removed}
use Rattle.adr_audience.proofs.event_rows.remove_event.Goals as goal

pub unreachable-requires : goal.unreachable-requires
unreachable-requires c =
    let book = c.args.store.now in
    let id = c.args.id.now in
    not_missing (event_by book id) c.in_default.ensures.found (removed_is_there book event_kind id c.requires.accepted)

pub remove-requires : goal.remove-requires
remove-requires c =
    let book = c.args.store.now in
    let id = c.args.id.now in
    let place = c.in-Some.place in
    subst (λ rows. place < length rows) (sym c.requires.rows)
    (row_of_event book place (event_by book id) c.in-Some.ensures.value (removed_is_there book event_kind id c.requires.accepted))

pub returns : goal.returns
returns c =
    let book = c.args.store.now in
    let id = c.args.id.now in
    let place = c.in-Some.place in
    c.remove.ensures ∙ ap (λ rows. remove rows place) c.requires.rows
    ∙ sym (asks_removed book place c.requires.whole id c.in-Some.ensures.value (removed_is_there book event_kind id c.requires.accepted))
