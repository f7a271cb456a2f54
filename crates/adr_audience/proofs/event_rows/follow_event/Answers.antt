use Rattle.std.proofs.Common.{◌<◌, length, set, ap, sym, subst, ◌∙◌}
use Rattle.adr_object.specs.declared.object.Object.TheVariants.{Event as event_object}
use Rattle.adr_model.specs.Book.{event_by}
use Rattle.adr_audience.specs.Asks.{asks_of}
use Rattle.adr_audience.proofs.Followed.{on_ok, not_missing, changed_is_there, row_of_event, asks_changed}
use Rattle.adr_audience.proofs.event_rows.follow_event.Goals as goal

pub unreachable-requires : goal.unreachable-requires
unreachable-requires c =
    let book = c.args.store.now in
    let r = c.args.event.now in
    not_missing (event_by book r.id) c.in_default.ensures.found (changed_is_there book (event_object r) c.requires.accepted)

pub replace-requires : goal.replace-requires
replace-requires c =
    let book = c.args.store.now in
    let r = c.args.event.now in
    let place = c.in-Some.place in
    subst (λ rows. place < length rows) (sym c.requires.rows)
    (row_of_event book place (event_by book r.id) c.in-Some.ensures.value (changed_is_there book (event_object r) c.requires.accepted))

pub returns-clause-ok : goal.returns-clause-ok
returns-clause-ok c =
    let book = c.args.store.now in
    let r = c.args.event.now in
    let place = c.in-Some.place in
    on_ok c.replace.result
    (λ e. e ∙ ap (λ rows. set rows place c.in_ok-row.row) c.requires.rows ∙ ap (set (asks_of book) place) c.in_ok-row.ensures
    ∙ sym (asks_changed book place c.requires.whole r c.in-Some.ensures.value (changed_is_there book (event_object r) c.requires.accepted)))
    c.replace.ensures.ok
