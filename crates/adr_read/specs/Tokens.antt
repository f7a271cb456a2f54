-- The tokens of a body, where each number in it stands for the text that the shield makes of it.
use Rattle.std.specs.Prelude.{ℕ, List, [], ◌∷◌, Bool, true, false, is_some, ⊤, if◌then◌else◌}
use Rattle.json.specs.Print.{IsNumber}
use Rattle.json.specs.Token as json
use Rattle.json.specs.Token.{begin_object, end_object, begin_array, end_array, key, string, number, boolean, null, bad}
use Rattle.adr_value.specs.Value.{number_of}
use Rattle.adr_read.specs.declared.tokens.Token.{Token}
use Rattle.adr_read.specs.declared.tokens.Token.TheVariants.{BeginObject, EndObject, BeginArray, EndArray, Key, String, Number, Float, Truth, Null, Bad}

-- whether the number has a decimal
abbrev pub fits : List ℕ → Bool
fits s = is_some (number_of s)

-- a number without a decimal stands for no JSON
abbrev pub shielded_token : json.Token → json.Token
shielded_token begin_object = begin_object
shielded_token end_object = end_object
shielded_token begin_array = begin_array
shielded_token end_array = end_array
shielded_token (key s) = key s
shielded_token (string s) = string s
shielded_token (number s) = if fits s then string (0 ∷ s) else bad
shielded_token (boolean b) = boolean b
shielded_token null = null
shielded_token bad = bad

abbrev pub shielded_tokens : List json.Token → List json.Token
shielded_tokens [] = []
shielded_tokens (t ∷ ts) = shielded_token t ∷ shielded_tokens ts

-- as they are seen of a text that is a shielded body, and of one that is a body itself
abbrev pub seen_token : Bool → json.Token → json.Token
seen_token true t = t
seen_token false t = shielded_token t

abbrev pub seen : Bool → List json.Token → List json.Token
seen true ts = ts
seen false ts = shielded_tokens ts

-- what a token stands for
abbrev pub token_of : Token → json.Token
token_of BeginObject = begin_object
token_of EndObject = end_object
token_of BeginArray = begin_array
token_of EndArray = end_array
token_of (Key s) = key s.now
token_of (String s) = string s.now
token_of (Number s) = shielded_token (number s.now)
token_of (Float s) = number s.now
token_of (Truth b) = boolean b
token_of Null = null
token_of Bad = bad

-- a number of a shielded body is one
abbrev pub IsSound : Token → Type 0
IsSound BeginObject = ⊤
IsSound EndObject = ⊤
IsSound BeginArray = ⊤
IsSound EndArray = ⊤
IsSound (Key s) = ⊤
IsSound (String s) = ⊤
IsSound (Number s) = ⊤
IsSound (Float s) = IsNumber s.now
IsSound (Truth b) = ⊤
IsSound Null = ⊤
IsSound Bad = ⊤
