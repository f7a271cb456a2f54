-- Sets of places, kept as blocks of 64 places.
use Rattle.std.specs.Prelude.{ℕ, ◌+◌, ◌-◌, nat_lt, nat_le, Bool, ◌&&◌, List}
use Rattle.std.specs.List.{list_any}
use Rattle.adr_keys.specs.Places.{bit}
use Rattle.adr_keys.specs.declared.blocks.Block.{Block}

-- the block has a bit for the place
abbrev pub covers : ℕ → Block → Bool
covers place block = nat_le block.start place && nat_lt place (block.start + 64)

-- the bit is set
abbrev pub is_set : ℕ → Block → Bool
is_set place block = covers place block && bit block.bits (place - block.start)

-- the place is in the set
unfoldable pub includes : List Block → ℕ → Bool
includes blocks place = list_any (is_set place) blocks

-- the place can be put into the set with no memory
unfoldable pub has_block : List Block → ℕ → Bool
has_block blocks place = list_any (covers place) blocks
