-- Numbers in chunks that copies share.
use Rattle.std.specs.Prelude.{◌≡◌, ◌≤◌, ◌/◌, ◌^◌, ◌++◌, ℕ, zero, suc, Bool, true, false, ⊤, List, [], ◌∷◌, length, Option, Some, None}

-- the chunks that are full, each with whether it may be written, and the last one
pub record Chunks : Type 0 where
  pub full : List (Bool × List ℕ)
  pub last : List ℕ

-- the numbers of chunks, in order
abbrev pub joined : List (Bool × List ℕ) → List ℕ
joined [] = []
joined (c ∷ cs) = c.1 ++ joined cs

-- the numbers of a table
abbrev pub numbers : Chunks → List ℕ
numbers t = joined t.full ++ t.last

-- each chunk is full
abbrev pub AreFull : List (Bool × List ℕ) → Type 0
AreFull [] = ⊤
AreFull (c ∷ cs) = (length c.1 ≡ 512) × AreFull cs

-- no table has more
abbrev pub IsTable : Chunks → Type 0
IsTable t = AreFull t.full × (length (numbers t) ≤ 2 ^ 31)

-- the chunk at the place may be written; so may the last one
abbrev pub may_write : List (Bool × List ℕ) → ℕ → Bool
may_write [] k = true
may_write (c ∷ cs) zero = c.0
may_write (c ∷ cs) (suc k) = may_write cs k

-- the number at the place may be written
abbrev pub is_own : Chunks → ℕ → Bool
is_own t place = may_write t.full (place / 512)

-- what a chunk shows: its own numbers, or those that it shares
abbrev pub shown : List ℕ → Option (List ℕ) → Bool × List ℕ
shown own None = (true, own)
shown own (Some shared) = (false, shared)
