-- What edits of a book do to what its events ask for.
use Rattle.std.proofs.Common.{◌++◌, ◌∷◌, [], ◌+◌, not, filter, refl, ap, bytes_eq}
use Rattle.std.proofs.lemmas.Bool.{false≢true}
use Rattle.std.proofs.lemmas.List.{map-append}
use Rattle.std.specs.Option.{option_map_or}
use Rattle.adr_object.specs.declared.object.Kind.TheVariants.{Program as program_kind, Event as event_kind, Ven as ven_kind, Resource as resource_kind}
use Rattle.adr_object.specs.declared.object.Object.TheVariants.{Program as program_object, Event as event_object, Resource as resource_object, Ven as ven_object}
use Rattle.adr_object.specs.declared.object.Edit.TheVariants.{Create, Change, Remove}
use Rattle.adr_object.specs.declared.party.Program.{Program}
use Rattle.adr_model.specs.declared.written.Written.{Written}
use Rattle.adr_audience.specs.Asks.{asks, asked_in}
use Rattle.adr_audience.specs.Laws.{AsksOfCreated, AsksOfChanged, AsksOfRemoved, AsksOfChangedProgram, AsksOfCreatedProgram, AsksOfRemovedProgram, AsksOfOthers}
use Rattle.adr_audience.proofs.Named.{rows_renewed}
use Rattle.adr_audience.proofs.Placed.{put_at_place, drop_at_place, by_id, found_before, found_beside, same_rows, none_has}

pub asks_of_created : AsksOfCreated
asks_of_created book event = map-append (λ w. asked_in book w.event) book.events (record { event = event; written = book.version + 1 } ∷ [])

pub asks_of_changed : AsksOfChanged
asks_of_changed book place old event d e i =
    put_at_place (λ w. w.event.id) (λ w. asked_in book w.event) (record { event = event; written = book.version + 1 }) book.events place old d e i

pub asks_of_removed : AsksOfRemoved
asks_of_removed book place w d e = drop_at_place (λ x. x.event.id) (λ x. asked_in book x.event) book.events place w d e

-- ---- a program that changes

pub asks_of_changed_program : AsksOfChangedProgram
asks_of_changed_program book program there = rows_renewed (λ (w : Written). asks w.event) (λ w. w.event.program_id) (λ p. p.id) program book.programs there book.events

-- ---- a program that comes or goes

pub asks_of_created_program : AsksOfCreatedProgram
asks_of_created_program book program whole =
    same_rows (λ w. option_map_or (asks w.event) (by_id (λ (x : Program). x.id) w.event.program_id (book.programs ++ program ∷ [])) []) (λ w. asked_in book w.event) book.events
    (λ w i. ap (λ o. option_map_or (asks w.event) o []) (found_before (λ (x : Program). x.id) program w.event.program_id book.programs (whole.programs w i)))

pub asks_of_removed_program : AsksOfRemovedProgram
asks_of_removed_program book id free =
    same_rows (λ w. option_map_or (asks w.event) (by_id (λ (x : Program). x.id) w.event.program_id (filter (λ v. not (bytes_eq id v.id)) book.programs)) []) (λ w. asked_in book w.event) book.events
    (λ w i. ap (λ o. option_map_or (asks w.event) o []) (found_beside (λ (x : Program). x.id) id w.event.program_id book.programs (none_has (λ x. bytes_eq id x.event.program_id) book.events free w i)))

pub asks_of_others : AsksOfOthers
asks_of_others book (Create (ven_object v)) h = refl
asks_of_others book (Create (resource_object r)) h = refl
asks_of_others book (Create (program_object p)) h = absurd (false≢true h)
asks_of_others book (Create (event_object e)) h = absurd (false≢true h)
asks_of_others book (Change (ven_object v)) h = refl
asks_of_others book (Change (resource_object r)) h = refl
asks_of_others book (Change (program_object p)) h = absurd (false≢true h)
asks_of_others book (Change (event_object e)) h = absurd (false≢true h)
asks_of_others book (Remove ven_kind id) h = refl
asks_of_others book (Remove resource_kind id) h = refl
asks_of_others book (Remove program_kind id) h = absurd (false≢true h)
asks_of_others book (Remove event_kind id) h = absurd (false≢true h)
