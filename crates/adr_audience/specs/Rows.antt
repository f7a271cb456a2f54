-- What the resources of a book offer.
use Rattle.std.specs.Prelude.{ℕ, Bool, false, List, [], filter, length, map, slice_get, Option, Some, None, if◌then◌else◌}
use Rattle.std.specs.List.{range_with_len}
use Rattle.std.specs.Option.{option_map_or}
use Rattle.std.specs.Str.{bytes_eq}
use Rattle.adr_object.specs.declared.party.Ven.{Ven}
use Rattle.adr_object.specs.declared.party.Resource.{Resource}
use Rattle.adr_model.specs.Book.{Book, ven_by}
use Rattle.adr_keys.specs.declared.key.Key.{Key}
use Rattle.adr_keys.specs.Rows.{renewed}
use Rattle.adr_audience.specs.Offers.{offers}

-- what a resource of the book offers; nothing where its ven is not there
abbrev pub offered_in : Book → Resource → List Key
offered_in book resource = option_map_or (offers resource) (ven_by book resource.ven_id) []

-- what each resource of the book offers
abbrev pub offers_of : Book → List (List Key)
offers_of book = map (offered_in book) book.resources

-- what a resource offers with the ven, where it is the ven's
abbrev pub fresh_row : Ven → Resource → Option (List Key)
fresh_row ven resource = if bytes_eq ven.id resource.ven_id then Some (offers resource ven) else None

-- the rows after the ven is changed: its resources offer what they do with the new one
abbrev pub with_ven : Ven → List Resource → List (List Key) → List (List Key)
with_ven ven resources rows = renewed (map (fresh_row ven) resources) rows

-- the resource at the place is of the ven of that id
abbrev pub is_of_ven : Book → List ℕ → ℕ → Bool
is_of_ven book id place = option_map_or (λ r. bytes_eq id r.ven_id) (slice_get book.resources place) false

-- the places of the resources of the ven of that id, in order of creation
abbrev pub places_of_ven : Book → List ℕ → List ℕ
places_of_ven book id = filter (is_of_ven book id) (range_with_len 0 (length book.resources))
