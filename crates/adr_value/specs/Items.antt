-- The elements of a list that keeps one in place.
use Rattle.std.specs.Prelude.{List, [], ◌∷◌}
use Rattle.adr_value.specs.declared.list.Items.{Items}
use Rattle.adr_value.specs.declared.list.Items.TheVariants.{One, Many}

-- the one in place, or those of the vector
abbrev pub items_of : {T : Type 0} → Items T → List T
items_of (One item) = item ∷ []
items_of (Many items) = items.items
