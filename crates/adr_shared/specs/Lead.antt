-- Numbers that go with the order of texts.
use Rattle.std.specs.Prelude.{◌≡◌, ℕ, zero, suc, ◌+◌, ◌*◌, ◌<◌, List, [], ◌∷◌}
use Rattle.std.specs.declared.cmp.Ordering.TheVariants.{Less}
use Rattle.std.specs.List.{AllByRecursion}
use Rattle.adr_shared.specs.Map.{code_cmp}

-- a number with so many more digits to base 256: the bytes in order, and zeros where they end
abbrev pub with_digits : ℕ → ℕ → List ℕ → ℕ
with_digits zero lead bytes = lead
with_digits (suc n) lead [] = with_digits n (lead * 256) []
with_digits (suc n) lead (byte ∷ bytes) = with_digits n (lead * 256 + byte) bytes

-- the first eight bytes as a big-endian number
abbrev pub lead_of_text : List ℕ → ℕ
lead_of_text text = with_digits 8 0 text

-- each is a byte
abbrev pub AreBytes : List ℕ → Type 0
AreBytes text = AllByRecursion (λ b. b < 256) text

-- the text with the smaller lead is the smaller
abbrev pub LeadsFollowTexts : Type 0
LeadsFollowTexts = (text other : List ℕ) → AreBytes text → AreBytes other → lead_of_text text < lead_of_text other → code_cmp text other ≡ Less
