-- What a script's lines are answered.
use Rattle.std.specs.Prelude.{◌≡◌, ◌⊎◌, ℕ, List, [], ◌∷◌, ◌++◌, length, nat_lt, MatchBool, codes, Option}
use Rattle.std.specs.Io.BufRead.{strip_last}
use Rattle.std.specs.Io.KnownBytes.{Consumes, Appends}

abbrev pub long_line : List ℕ
long_line = codes "refused 1 LongLine\n"

abbrev pub no_memory : List ℕ
no_memory = codes "refused 99 NoMemory\n"

-- From s, the line may be given this reply, and leaves t. A machine says by `answers` what it may reply to a
-- line that is not too long, without one carriage return at its end. In place of any reply want of memory may be
-- told, and then nothing changes.
abbrev pub LineStep : {S : Type 0} → (S → List ℕ → List ℕ → S → Type 0) → S → List ℕ → List ℕ → S → Type 0
LineStep answers s line reply t =
    MatchBool (nat_lt 4194304 (length line)) ((reply ≡ long_line) × (t ≡ s)) (answers s (strip_last 13 line) reply t)
    ⊎ ((reply ≡ no_memory) × (t ≡ s))

-- the lines in turn, each from what the one before left; out is their replies, one behind the other
abbrev pub Told : {S : Type 0} → (S → List ℕ → List ℕ → S → Type 0) → S → List (List ℕ) → List ℕ → S → Type 0
Told answers s [] out t = (out ≡ []) × (t ≡ s)
Told {S} answers s (line ∷ lines) out t =
    (reply : List ℕ) × (rest : List ℕ) × (mid : S) × LineStep answers s line reply mid × Told answers mid lines rest t × (out ≡ reply ++ rest)

-- A reader gave some bytes and a writer took some, and P holds of the two, where what is left and what is held are known.
abbrev pub Moves : Option (List ℕ) → Option (List ℕ) → Option (List ℕ) → Option (List ℕ) → (List ℕ → List ℕ → Type 0) → Type 0
Moves left_old left_new held_old held_new P =
    (bytes : List ℕ) × (out : List ℕ) × Consumes left_old left_new bytes × Appends held_old held_new out × P bytes out

-- the replies to these lines, perhaps cut short; the machine is what all of them leave
abbrev pub IsToldInPart : {S : Type 0} → (S → List ℕ → List ℕ → S → Type 0) → S → List (List ℕ) → List ℕ → S → Type 0
IsToldInPart answers s lines out t = (more : List ℕ) × Told answers s lines (out ++ more) t
