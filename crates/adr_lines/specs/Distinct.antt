-- Entries that stand once.
use Rattle.std.specs.Prelude.{ℕ, List, [], String}
use Rattle.std.specs.HashMap.{HashMap, get_by_text}
use Rattle.std.specs.Option.{option_map_or}
use Rattle.adr_index.specs.Index.{AreDistinct, Indexed}

-- under each name no two entries have one written number and place
abbrev pub AreAllDistinct : {Y S : Type 0} → HashMap (String Y) Indexed S → Type 0
AreAllDistinct by_name = (name : List ℕ) → AreDistinct (option_map_or (λ i. i.entries) (get_by_text by_name name) [])
