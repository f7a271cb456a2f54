-- What edits of a book do to what its resources offer.
use Rattle.std.proofs.Common.{◌++◌, ◌∷◌, [], not, filter, refl, ap, bytes_eq}
use Rattle.std.proofs.lemmas.Bool.{false≢true}
use Rattle.std.proofs.lemmas.List.{map-append}
use Rattle.std.specs.Option.{option_map_or}
use Rattle.adr_object.specs.declared.object.Kind.TheVariants.{Program as program_kind, Event as event_kind, Ven as ven_kind, Resource as resource_kind}
use Rattle.adr_object.specs.declared.object.Object.TheVariants.{Program as program_object, Event as event_object, Resource as resource, Ven as ven_object}
use Rattle.adr_object.specs.declared.object.Edit.TheVariants.{Create, Change, Remove}
use Rattle.adr_object.specs.declared.party.Ven.{Ven}
use Rattle.adr_audience.specs.Offers.{offers}
use Rattle.adr_audience.specs.Rows.{offered_in}
use Rattle.adr_audience.specs.Laws.{RowsOfCreated, RowsOfChanged, RowsOfRemoved, RowsOfChangedVen, RowsOfCreatedVen, RowsOfRemovedVen, RowsOfOthers}
use Rattle.adr_audience.proofs.Named.{rows_renewed}
use Rattle.adr_audience.proofs.Placed.{put_at_place, drop_at_place, by_id, found_before, found_beside, same_rows, none_has}

pub rows_of_created : RowsOfCreated
rows_of_created book r = map-append (offered_in book) book.resources (r ∷ [])

pub rows_of_changed : RowsOfChanged
rows_of_changed book place old new d e i = put_at_place (λ x. x.id) (offered_in book) new book.resources place old d e i

pub rows_of_removed : RowsOfRemoved
rows_of_removed book place r d e = drop_at_place (λ x. x.id) (offered_in book) book.resources place r d e

-- ---- a ven that changes

pub rows_of_changed_ven : RowsOfChangedVen
rows_of_changed_ven book ven there = rows_renewed offers (λ r. r.ven_id) (λ v. v.id) ven book.vens there book.resources

-- ---- a ven that comes or goes

pub rows_of_created_ven : RowsOfCreatedVen
rows_of_created_ven book ven whole =
    same_rows (λ r. option_map_or (offers r) (by_id (λ (x : Ven). x.id) r.ven_id (book.vens ++ ven ∷ [])) []) (offered_in book) book.resources
    (λ r i. ap (λ o. option_map_or (offers r) o []) (found_before (λ (x : Ven). x.id) ven r.ven_id book.vens (whole.vens r i)))

pub rows_of_removed_ven : RowsOfRemovedVen
rows_of_removed_ven book id free =
    same_rows (λ r. option_map_or (offers r) (by_id (λ (x : Ven). x.id) r.ven_id (filter (λ v. not (bytes_eq id v.id)) book.vens)) []) (offered_in book) book.resources
    (λ r i. ap (λ o. option_map_or (offers r) o []) (found_beside (λ (x : Ven). x.id) id r.ven_id book.vens (none_has (λ x. bytes_eq id x.ven_id) book.resources free r i)))

pub rows_of_others : RowsOfOthers
rows_of_others book (Create (program_object p)) h = refl
rows_of_others book (Create (event_object e)) h = refl
rows_of_others book (Create (ven_object v)) h = absurd (false≢true h)
rows_of_others book (Create (resource r)) h = absurd (false≢true h)
rows_of_others book (Change (program_object p)) h = refl
rows_of_others book (Change (event_object e)) h = refl
rows_of_others book (Change (ven_object v)) h = absurd (false≢true h)
rows_of_others book (Change (resource r)) h = absurd (false≢true h)
rows_of_others book (Remove program_kind id) h = refl
rows_of_others book (Remove event_kind id) h = refl
rows_of_others book (Remove ven_kind id) h = absurd (false≢true h)
rows_of_others book (Remove resource_kind id) h = absurd (false≢true h)
