-- The keys of rows, and rows that are renewed.
use Rattle.std.specs.Prelude.{Bool, false, List, [], ◌∷◌, Option}
use Rattle.std.specs.List.{list_any}
use Rattle.std.specs.Option.{option_map_or, unwrap_or}
use Rattle.adr_keys.specs.declared.key.Key.{Key}
use Rattle.adr_keys.specs.Key.{same_key}

-- the keys have the key
abbrev pub offers_key : List Key → Key → Bool
offers_key row key = list_any (same_key key) row

-- some row has the key
abbrev pub is_key_of : List (List Key) → Key → Bool
is_key_of rows key = list_any (λ row. offers_key row key) rows

-- there is a fresh row, and it has the key
abbrev pub offers_fresh : Option (List Key) → Key → Bool
offers_fresh row key = option_map_or (λ keys. offers_key keys key) row false

-- the rows with the fresh ones, where there are any, in their places
abbrev pub renewed : List (Option (List Key)) → List (List Key) → List (List Key)
renewed [] rows = rows
renewed (f ∷ fs) [] = []
renewed (f ∷ fs) (row ∷ rows) = unwrap_or f row ∷ renewed fs rows
