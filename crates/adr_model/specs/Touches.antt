-- Where an edit changes who competes.
use Rattle.std.specs.Prelude.{ℕ, ◌==◌, not, List, [], ◌∷◌, ◌++◌, map, Option, Some, None, if◌then◌else◌, filter, flat_map}
use Rattle.std.specs.List.{list_any, zip}
use Rattle.std.specs.Str.{bytes_eq}
use Rattle.std.specs.Bool.{then_some}
use Rattle.std.specs.Option.{option_and_then}
use Rattle.std.specs.Result.{result_unwrap_or}
use Rattle.adr_value.specs.Same.{same_type}
use Rattle.adr_value.specs.declared.payload.PayloadType.{PayloadType}
use Rattle.adr_time.specs.Spans.{is_before}
use Rattle.adr_object.specs.declared.event.Payload.{Payload}
use Rattle.adr_model.specs.declared.touch.Touch.{Touch}
use Rattle.adr_model.specs.Layout.{layout}
use Rattle.adr_model.specs.declared.written.Written.{Written}
use Rattle.adr_model.specs.Book.{Book, resource_by, event_by}
use Rattle.adr_model.specs.Governor.{applies_to}

-- the ids of the first list, then those that the second adds
abbrev pub ids_of_both : List (List ℕ) → List (List ℕ) → List (List ℕ)
ids_of_both old new = old ++ filter (λ id. not (list_any (bytes_eq id) old)) new

-- the payload types, each where it stands first
abbrev pub types_of : List Payload → List PayloadType
types_of [] = []
types_of (p ∷ ps) = p.kind ∷ filter (λ payload_type. not (same_type p.kind payload_type)) (types_of ps)

-- a touch for each interval that lasts and each of its types
abbrev pub touches_of : List ℕ → Written → List Touch
touches_of resource w =
    flat_map
    (λ p. if is_before p.1.start p.1.end then map (λ payload_type. record { resource = resource; kind = payload_type; window = p.1 }) (types_of p.0.payloads) else [])
    (zip w.event.intervals (result_unwrap_or (layout w.event) []))

-- the event, where both are there and it applies
abbrev pub applying : Book → List ℕ → List ℕ → Option Written
applying book resource event =
    option_and_then (λ r. option_and_then (λ w. then_some (applies_to book r w) w) (event_by book event)) (resource_by book resource)

-- both the event that applied and the one that applies, unless they are one
abbrev pub touches_between : List ℕ → Option Written → Option Written → List Touch
touches_between resource None None = []
touches_between resource None (Some new) = touches_of resource new
touches_between resource (Some old) None = touches_of resource old
touches_between resource (Some old) (Some new) =
    if old.written == new.written then [] else (touches_of resource old ++ touches_of resource new)

-- the touches between two books, by resource and then by event
unfoldable pub touches : Book → Book → List Touch
touches old new =
    flat_map
    (λ r. flat_map
    (λ e. touches_between r (applying old r e) (applying new r e))
    (ids_of_both (map (λ w. w.event.id) old.events) (map (λ w. w.event.id) new.events)))
    (ids_of_both (map (λ r. r.id) old.resources) (map (λ r. r.id) new.resources))
