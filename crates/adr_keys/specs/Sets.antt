-- For each key the set of the places that offer it.
use Rattle.std.specs.Prelude.{◌≡◌, ℕ, Bool, false, List, [], get_or}
use Rattle.std.specs.Option.{option_map_or}
use Rattle.indexmap.specs.IndexMap.{IndexMap, get}
use Rattle.adr_keys.specs.declared.blocks.Block.{Block}
use Rattle.adr_keys.specs.declared.key.Key.{Key}
use Rattle.adr_keys.specs.Key.{same_key}
use Rattle.adr_keys.specs.Blocks.{includes, has_block}
use Rattle.adr_keys.specs.Rows.{offers_key}

-- the place is in the set of the key
abbrev pub holds : {S : Type 0} → IndexMap Key (List Block) S → Key → ℕ → Bool
holds sets key place = option_map_or (λ set. includes set place) (get same_key sets key) false

-- the place can be put into the set of the key with no memory
abbrev pub is_ready : {S : Type 0} → IndexMap Key (List Block) S → Key → ℕ → Bool
is_ready sets key place = option_map_or (λ set. has_block set place) (get same_key sets key) false

-- each set has the places whose rows offer its key, and no other
abbrev pub IsIndexOf : {S : Type 0} → IndexMap Key (List Block) S → List (List Key) → Type 0
IsIndexOf sets rows = (key : Key) (place : ℕ) → holds sets key place ≡ offers_key (get_or rows place []) key
