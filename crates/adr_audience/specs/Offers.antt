-- What a resource offers, and what a target asks for.
use Rattle.std.specs.Prelude.{ℕ, Bool, ◌||◌, List, [], ◌∷◌, ◌++◌, codes, map, flat_map, Option, Some, None, if◌then◌else◌}
use Rattle.std.specs.Str.{bytes_eq}
use Rattle.adr_value.specs.declared.datum.Datum.{Datum}
use Rattle.adr_value.specs.declared.datum.Datum.TheVariants.{Text, Number, Truth, Point}
use Rattle.adr_object.specs.declared.event.Target.{Target}
use Rattle.adr_object.specs.declared.party.Ven.{Ven as OneVen}
use Rattle.adr_object.specs.declared.party.Resource.{Resource as OneResource}
use Rattle.adr_keys.specs.declared.key.Key.{Key}
use Rattle.adr_keys.specs.declared.key.Key.TheVariants.{Resource, Ven, Value}

-- the type is a word for a name
abbrev pub is_word : List ℕ → Bool
is_word kind = bytes_eq kind (codes "RESOURCE_NAME") || (bytes_eq kind (codes "VEN_NAME") || (bytes_eq kind (codes "EVENT_NAME") || bytes_eq kind (codes "PROGRAM_NAME")))

abbrev pub keys_of_target : Target → List Key
keys_of_target t = if is_word t.kind then [] else map (λ v. Value t.kind v) t.values

-- the values under types that are no words for names
abbrev pub keys_of : List Target → List Key
keys_of targets = flat_map keys_of_target targets

-- its name, its ven's name, its own values and its ven's
abbrev pub offers : OneResource → OneVen → List Key
offers resource ven = (Resource resource.resource_name ∷ Ven ven.ven_name ∷ keys_of resource.targets) ++ keys_of ven.targets

abbrev pub named_key : (List ℕ → Key) → Datum → Option Key
named_key make (Text name) = Some (make name)
named_key make (Number n) = None
named_key make (Truth b) = None
named_key make (Point x y) = None

-- the key that a value under a type asks for; no name is a number, a truth value or a point
abbrev pub asked_key : List ℕ → Datum → Option Key
asked_key kind value =
    if bytes_eq kind (codes "RESOURCE_NAME") then named_key (λ name. Resource name) value
    else if bytes_eq kind (codes "VEN_NAME") then named_key (λ name. Ven name) value
    else Some (Value kind value)
