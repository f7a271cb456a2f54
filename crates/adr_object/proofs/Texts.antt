-- What an id is spelled with is a text.
use Rattle.std.proofs.Common.{◌≡◌, ℕ, ◌<◌, ◌&&◌, nat_le, length, IsTrue, true, List, [], ◌∷◌, IsUtf8, subst, arith}
use Rattle.std.specs.List.{list_all}
use Rattle.std.proofs.lemmas.Bool.{and_parts}
use Rattle.std.proofs.lemmas.Str.{IsUtf8-append, IsUtf8-nil, IsUtf8-encode, encode_ascii}
use lib.Utf8.{low_scalar}
use Rattle.adr_object.specs.Id.{is_id_byte, is_id}

is_ascii : (b : ℕ) → is_id_byte b ≡ true → b < 128
is_ascii b h = grind (arith, h)

ascii_then : (b : ℕ) (text : List ℕ) → b < 128 → IsUtf8 text → IsUtf8 (b ∷ text)
ascii_then b text small rest = IsUtf8-append (b ∷ []) text (subst IsUtf8 (encode_ascii b small) (IsUtf8-encode b (low_scalar b (omega (arith, small))))) rest

are_texts : (text : List ℕ) → list_all is_id_byte text ≡ true → IsUtf8 text
are_texts [] h = IsUtf8-nil
are_texts (b ∷ text) h = let parts = and_parts (is_id_byte b) (list_all is_id_byte text) h in ascii_then b text (is_ascii b parts.0) (are_texts text parts.1)

pub id_is_text : (text : List ℕ) → IsTrue (is_id text) → IsUtf8 text
id_is_text text h = are_texts text (and_parts (nat_le 1 (length text) && nat_le (length text) 128) (list_all is_id_byte text) h).1
