use Rattle.std.proofs.Common.{◌<◌, length, remove, is_some, ap, sym, subst, ◌∙◌}
use Rattle.adr_object.specs.declared.object.Kind.TheVariants.{Resource as resource_kind}
use Rattle.adr_model.specs.Book.{resource_by}
use Rattle.adr_audience.proofs.Followed.{not_missing, removed_is_there, row_of_resource, rows_removed}
use Rattle.adr_audience.proofs.resource_rows.remove_resource.Goals as goal

pub unreachable-requires : goal.unreachable-requires
unreachable-requires c =
    let book = c.args.store.now in
    let id = c.args.id.now in
    not_missing (resource_by book id) (c.in_default.ensures.found ∙ ap (λ i. is_some (resource_by book i)) c.lent.ensures) (removed_is_there book resource_kind id c.requires.accepted)

pub remove-requires : goal.remove-requires
remove-requires c =
    let book = c.args.store.now in
    let id = c.args.id.now in
    let place = c.in-Some.place in
    subst (λ rows. place < length rows) (sym c.requires.rows)
    (row_of_resource book place (resource_by book id) (c.in-Some.ensures.value ∙ ap (resource_by book) c.lent.ensures) (removed_is_there book resource_kind id c.requires.accepted))

pub returns : goal.returns
returns c =
    let book = c.args.store.now in
    let id = c.args.id.now in
    let place = c.in-Some.place in
    c.remove.ensures ∙ ap (λ rows. remove rows place) c.requires.rows
    ∙ sym (rows_removed book place c.requires.whole id (c.in-Some.ensures.value ∙ ap (resource_by book) c.lent.ensures) (removed_is_there book resource_kind id c.requires.accepted))
