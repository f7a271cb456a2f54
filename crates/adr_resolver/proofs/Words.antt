-- A word of a line is a text where it is UTF-8.
use Rattle.std.proofs.Common.{◌≡◌, ℕ, List, Bool, true, false, cond, ap}
use Rattle.std.specs.Str.{is_utf8, IsUtf8}
use Rattle.std.proofs.lemmas.Str.{is_utf8-from_IsUtf8, IsUtf8-from_is_utf8}

pub is_text : {A : Type 0} (word : List ℕ) (x y : A) → IsUtf8 word → cond (is_utf8 word) x y ≡ x
is_text {A} word x y h = ap (λ (b : Bool). cond b x y) (is_utf8-from_IsUtf8 word h)

no_text_at : {A : Type 0} (b : Bool) (word : List ℕ) (x y : A) → is_utf8 word ≡ b → (IsUtf8 word → ⊥) → cond b x y ≡ y
no_text_at true word x y e h = absurd (h (IsUtf8-from_is_utf8 word e))
no_text_at false word x y e h = Rattle.std.proofs.Common.refl

pub no_text : {A : Type 0} (word : List ℕ) (x y : A) → (IsUtf8 word → ⊥) → cond (is_utf8 word) x y ≡ y
no_text word x y h = no_text_at _ word x y Rattle.std.proofs.Common.refl h
