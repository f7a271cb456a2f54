-- What stands behind a NUL, and what is no JSON.
use Rattle.std.proofs.Common.{◌≡◌, ℕ, zero, suc, List, [], ◌∷◌, Bool, true, false, Option, Some, None, Bor, refl}
use Rattle.std.specs.Prelude.{MatchOption, option_map, ◌≢◌}
use Rattle.std.specs.Str.{IsUtf8, is_utf8}
use Rattle.std.proofs.lemmas.Str.{is_utf8-from_IsUtf8, IsUtf8-from_is_utf8}
use Rattle.serde_json.specs.Data.{Data}
use Rattle.adr_read.specs.Looking.{after_nul}
use Rattle.json.specs.Lex.{tokens}
use Rattle.adr_read.specs.Seen.{whole_value, value_seen}
use Rattle.adr_read.specs.Tokens.{seen}

pub after_nul-stripped : (bs : List ℕ) (r : Option (Bor (List ℕ))) → MatchOption r ((rest : List ℕ) → bs ≢ 0 ∷ rest) (λ x. bs ≡ 0 ∷ x.now) → option_map (λ x. x.now) r ≡ after_nul bs
after_nul-stripped [] None h = refl
after_nul-stripped (zero ∷ bs) None h = absurd (h bs refl)
after_nul-stripped (suc b ∷ bs) None h = refl
after_nul-stripped bs (Some x) h = rw h refl

pub value_of_text : (b : Bool) (bytes : List ℕ) (d : Data) → IsUtf8 bytes → whole_value (seen b (tokens bytes)) ≡ Some d → value_seen b bytes ≡ Some d
value_of_text b bytes d text e = rw (is_utf8-from_IsUtf8 bytes text) e

no_value_at : (b : Bool) (bytes : List ℕ) (text : Bool) → is_utf8 bytes ≡ text → (IsUtf8 bytes → whole_value (seen b (tokens bytes)) ≡ None) → value_seen b bytes ≡ None
no_value_at b bytes true e none = rw e (none (IsUtf8-from_is_utf8 bytes e))
no_value_at b bytes false e none = rw e refl

pub no_value : (b : Bool) (bytes : List ℕ) → (IsUtf8 bytes → whole_value (seen b (tokens bytes)) ≡ None) → value_seen b bytes ≡ None
no_value b bytes none = no_value_at b bytes _ refl none
