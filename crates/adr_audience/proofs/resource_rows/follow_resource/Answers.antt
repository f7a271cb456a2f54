use Rattle.std.proofs.Common.{◌<◌, length, set, is_some, ap, sym, subst, ◌∙◌}
use Rattle.adr_object.specs.declared.object.Object.TheVariants.{Resource as resource_object}
use Rattle.adr_model.specs.Book.{resource_by}
use Rattle.adr_audience.specs.Rows.{offers_of}
use Rattle.adr_audience.proofs.Followed.{on_ok, not_missing, changed_is_there, row_of_resource, rows_changed}
use Rattle.adr_audience.proofs.resource_rows.follow_resource.Goals as goal

pub unreachable-requires : goal.unreachable-requires
unreachable-requires c =
    let book = c.args.store.now in
    let r = c.args.resource.now in
    not_missing (resource_by book r.id) (c.in_default.ensures.found ∙ ap (λ i. is_some (resource_by book i)) c.lent.ensures) (changed_is_there book (resource_object r) c.requires.accepted)

pub replace-requires : goal.replace-requires
replace-requires c =
    let book = c.args.store.now in
    let r = c.args.resource.now in
    let place = c.in-Some.place in
    subst (λ rows. place < length rows) (sym c.requires.rows)
    (row_of_resource book place (resource_by book r.id) (c.in-Some.ensures.value ∙ ap (resource_by book) c.lent.ensures) (changed_is_there book (resource_object r) c.requires.accepted))

pub returns-clause-ok : goal.returns-clause-ok
returns-clause-ok c =
    let book = c.args.store.now in
    let r = c.args.resource.now in
    let place = c.in-Some.place in
    on_ok c.replace.result
    (λ e. e ∙ ap (λ rows. set rows place c.in_ok-row.row) c.requires.rows ∙ ap (set (offers_of book) place) c.in_ok-row.ensures
    ∙ sym (rows_changed book place c.requires.whole r (c.in-Some.ensures.value ∙ ap (resource_by book) c.lent.ensures) (changed_is_there book (resource_object r) c.requires.accepted)))
    c.replace.ensures.ok
