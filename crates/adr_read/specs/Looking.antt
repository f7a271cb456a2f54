-- Looking into the data of a body, in which each number is a text that begins with NUL.
use Rattle.std.specs.Prelude.{ℕ, zero, suc, List, [], ◌∷◌, Option, Some, None, is_some, option_and_then, unwrap_or, if◌then◌else◌}
use Rattle.serde_json.specs.Data.{Data, null, Items, no_items, item}
use Rattle.serde_json.specs.Find.{get, as_null, as_str}
use Rattle.adr_value.specs.Number.{Number}
use Rattle.adr_value.specs.Value.{number_of}

-- the elements of an array in order
abbrev pub elements : Items → List Data
elements no_items = []
elements (item d ds) = d ∷ elements ds

-- null counts as absent
abbrev pub present : Option Data → Option Data
present None = None
present (Some d) = if is_some (as_null d) then None else Some d

-- the member of that name, where it is there and isn't null
abbrev pub member_at : List ℕ → Data → Option Data
member_at name d = present (get name d)

-- the member of that name, or null
abbrev pub the : List ℕ → Data → Data
the name d = unwrap_or (member_at name d) null

-- what follows a NUL at the front
abbrev pub after_nul : List ℕ → Option (List ℕ)
after_nul [] = None
after_nul (zero ∷ bs) = Some bs
after_nul (suc b ∷ bs) = None

-- a text that is no number
abbrev pub plain : List ℕ → Option (List ℕ)
plain bs = if is_some (after_nul bs) then None else Some bs

-- the text of a value that is a text and no number
abbrev pub text_of : Data → Option (List ℕ)
text_of d = option_and_then plain (as_str d)

-- the decimal of a value that is a number
abbrev pub decimal_of : Data → Option Number
decimal_of d = option_and_then number_of (option_and_then after_nul (as_str d))
