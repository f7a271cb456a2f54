-- What a text reads as where its numbers are seen as texts, or as they are.
use Rattle.std.specs.Prelude.{◌≡◌, ℕ, ◌&&◌, ◌==◌, List, [], ◌∷◌, drop, Bool, false, Option, None, option_and_then, if◌then◌else◌}
use Rattle.std.specs.Str.{is_utf8}
use Rattle.json.specs.Json.{value, if_last}
use Rattle.json.specs.Lex.{tokens}
use Rattle.json.specs.Token.{Token}
use Rattle.serde_json.specs.Data.{Data}
use Rattle.serde_json.specs.Read.{of_json, max_depth}
use Rattle.adr_value.specs.Shield.{tells_nul}
use Rattle.adr_read.specs.Tokens.{seen}

-- the value that all these tokens are
abbrev pub whole_value : List Token → Option Data
whole_value ts = option_and_then of_json (option_and_then (λ p. if_last p.0 p.1) (value max_depth ts))

-- the value of a text, of a shielded body or of a body itself
abbrev pub value_seen : Bool → List ℕ → Option Data
value_seen shielded bytes = if is_utf8 bytes then whole_value (seen shielded (tokens bytes)) else None

-- the escape of a NUL stands nowhere in the text
abbrev pub nul_first : List ℕ → Bool
nul_first [] = false
nul_first (b ∷ []) = false
nul_first (b ∷ c ∷ rest) = (b == 92) && tells_nul c rest

abbrev pub HasNoNul : List ℕ → Type 0
HasNoNul t = (k : ℕ) → nul_first (drop k t) ≡ false
