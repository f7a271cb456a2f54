-- All tokens, from the value that comes first in them.
use Rattle.std.proofs.Common.{◌≡◌, List, [], ◌∷◌, Option, Some, None, option_and_then, refl, ap, ◌∙◌}
use Rattle.json.specs.Token.{Token}
use Rattle.json.specs.Json as json
use Rattle.json.specs.Json.{value, if_last}
use Rattle.serde_json.specs.Data.{Data}
use Rattle.serde_json.specs.Read.{of_json, converted, max_depth}
use Rattle.adr_read.specs.Coming.{coming}
use Rattle.adr_read.specs.Seen.{whole_value}
use Rattle.adr_read.proofs.ComingLemmas.{converted_parts}
use Rattle.adr_read.proofs.SkipLemmas.{not_converted}

abbrev whole : Option (json.Json × List Token) → Option Data
whole o = option_and_then of_json (option_and_then (λ p. if_last p.0 p.1) o)

pub read_whole : (ts : List Token) (d : Data) → coming max_depth ts ≡ Some (d, []) → whole_value ts ≡ Some d
read_whole ts d comes = let j = converted_parts of_json (value max_depth ts) d [] comes in ap whole j.1 ∙ j.2

none_at : (o : Option (json.Json × List Token)) → converted of_json o ≡ None → whole o ≡ None
none_at None e = refl
none_at (Some (j, [])) e = not_converted [] (of_json j) e
none_at (Some (j, t ∷ rest)) e = refl

pub read_none : (ts : List Token) → coming max_depth ts ≡ None → whole_value ts ≡ None
read_none ts none = none_at (value max_depth ts) none
