-- What an id is spelled with.
use Rattle.std.specs.Prelude.{ℕ, ◌&&◌, ◌||◌, ◌==◌, nat_le, Bool, List, length, Result, Ok, Err, if◌then◌else◌}
use Rattle.std.specs.List.{list_all}
use Rattle.adr_refusal.specs.declared.refusal.Refusal.{Refusal}
use Rattle.adr_refusal.specs.declared.refusal.Refusal.TheVariants.{BadId}

-- a letter, a digit, `_` or `-`
abbrev pub is_id_byte : ℕ → Bool
is_id_byte b = (nat_le 97 b && nat_le b 122) || (nat_le 65 b && nat_le b 90) || (nat_le 48 b && nat_le b 57) || b == 95 || b == 45

-- 1 to 128 of them
abbrev pub is_id : List ℕ → Bool
is_id text = nat_le 1 (length text) && nat_le (length text) 128 && list_all is_id_byte text

-- the id that a word spells
abbrev pub id_named : List ℕ → Result (List ℕ) Refusal
id_named text = if is_id text then Ok text else Err BadId
