-- The entries of the events that apply, event by event.
use Rattle.std.proofs.Common.{◌≡◌, ℕ, ◌≤◌, List, [], length, take, take_all, filter, ap, ◌∙◌, sym}
use Rattle.std.specs.Prelude.{Option, Some}
use Rattle.std.specs.List.{flat_map}
use Rattle.std.specs.Option.{option_map_or}
use Rattle.adr_value.specs.declared.payload.PayloadType.{PayloadType}
use Rattle.adr_object.specs.declared.party.Resource.{Resource}
use Rattle.adr_model.specs.declared.written.Written.{Written}
use Rattle.adr_model.specs.Book.{Book, resource_by}
use Rattle.adr_model.specs.Governor.{applies_to, entries_for, entries_of}
use Rattle.adr_plain.specs.Scan.{entries_if_applied}
use Rattle.adr_calendar.proofs.Walked.{flat_map-filter}

-- of a resource that is there, those of all events
pub all_applied : (book : Book) (id : List ℕ) (kind : PayloadType) (resource : Resource) (n : ℕ)
    → resource_by book id ≡ Some resource → length book.events ≤ n
    → flat_map (entries_if_applied book resource kind) (take n book.events) ≡ entries_for book id kind
all_applied book id kind resource n there long =
    ap (λ (ws : List Written). flat_map (entries_if_applied book resource kind) ws) (take_all n book.events long)
    ∙ sym (flat_map-filter (entries_of kind) (applies_to book resource) book.events)
    ∙ ap (λ (o : Option Resource). option_map_or (λ (r : Resource). flat_map (entries_of kind) (filter (applies_to book r) book.events)) o []) (sym there)
