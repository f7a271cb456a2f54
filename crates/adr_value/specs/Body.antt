-- A body as one sequence of pieces, and what the shield makes of each.
use Rattle.std.specs.Prelude.{ℕ, ◌≡◌, ◌⊎◌, ◌&&◌, ◌||◌, ◌==◌, not, Bool, true, false, List, [], ◌∷◌, ◌++◌, Some, None, is_none, if◌then◌else◌}
use Rattle.std.specs.List.{flat_map, list_all}
use Rattle.adr_value.specs.Shield.{is_run_byte, names_member, quoted, shield_of, starts_run, tells_nul}
use Rattle.adr_value.specs.Value.{number_of}

-- what stands between a text's quotes, one by one: a byte, or the byte that a backslash escapes
pub data Letter : Type 0 where
  Plain : ℕ → Letter
  Escaped : ℕ → Letter

abbrev pub letter_bytes : Letter → List ℕ
letter_bytes (Plain c) = c ∷ []
letter_bytes (Escaped c) = 92 ∷ c ∷ []

abbrev pub letters_bytes : List Letter → List ℕ
letters_bytes letters = flat_map letter_bytes letters

-- a bare quote would end the text, and a bare backslash escape what follows it
abbrev pub is_letter : Letter → Bool
is_letter (Plain c) = not (c == 34) && not (c == 92)
is_letter (Escaped c) = true

-- the escape `\u0000` stands among the letters
abbrev pub has_nul : List Letter → Bool
has_nul [] = false
has_nul (Plain c ∷ letters) = has_nul letters
has_nul (Escaped c ∷ letters) = tells_nul c (letters_bytes letters) || has_nul letters

-- a text, as its letters and the bytes that end it; a number's bytes; another byte
pub data Piece : Type 0 where
  Text : List Letter → List ℕ → Piece
  Number : List ℕ → Piece
  Other : ℕ → Piece

abbrev pub piece_bytes : Piece → List ℕ
piece_bytes (Text letters end) = 34 ∷ letters_bytes letters ++ end
piece_bytes (Number run) = run
piece_bytes (Other c) = c ∷ []

-- the body that the pieces are, one behind the other
abbrev pub joined : List Piece → List ℕ
joined pieces = flat_map piece_bytes pieces

-- a text ends with a quote, or with the body, perhaps behind a last backslash
abbrev pub EndsText : List ℕ → List ℕ → Type 0
EndsText end rest = (end ≡ 34 ∷ []) ⊎ ((rest ≡ []) × ((end ≡ []) ⊎ (end ≡ 92 ∷ [])))

abbrev pub begins : (ℕ → Bool) → List ℕ → Bool
begins test [] = false
begins test (c ∷ rest) = test c

-- the piece is one of its kind, and as long as it can be where these bytes follow it
abbrev pub IsPiece : Piece → List ℕ → Type 0
IsPiece (Text letters end) rest = (list_all is_letter letters ≡ true) × EndsText end rest
IsPiece (Number run) rest =
    (begins starts_run run ≡ true) × (list_all is_run_byte run ≡ true) × (begins is_run_byte rest ≡ false)
IsPiece (Other c) rest = ((c == 34) ≡ false) × (starts_run c ≡ false)

abbrev pub ArePieces : List Piece → Type 0
ArePieces [] = Unit {0}
ArePieces (p ∷ ps) = IsPiece p (joined ps) × ArePieces ps

-- the body is this sequence of pieces
pub record IsCutInto (body : List ℕ) (pieces : List Piece) : Type 0 where
  pub whole : joined pieces ≡ body
  pub kinds : ArePieces pieces

-- a text with a NUL, and a number that has no decimal or names a member
abbrev pub is_bad : Piece → List ℕ → Bool
is_bad (Text letters end) rest = has_nul letters
is_bad (Number run) rest = is_none (number_of run) || names_member rest
is_bad (Other c) rest = false

abbrev pub some_bad : List Piece → Bool
some_bad [] = false
some_bad (p ∷ ps) = is_bad p (joined ps) || some_bad ps

-- a number is quoted, all else is copied
abbrev pub shielded_piece : Piece → List ℕ
shielded_piece (Text letters end) = 34 ∷ letters_bytes letters ++ end
shielded_piece (Number run) = quoted run
shielded_piece (Other c) = c ∷ []

abbrev pub shielded : List Piece → List ℕ
shielded pieces = flat_map shielded_piece pieces

-- ---- the laws of the shield

-- each body is a sequence of pieces
abbrev pub BodiesAreCut : Type 0
BodiesAreCut = (body : List ℕ) → (pieces : List Piece) × IsCutInto body pieces

-- and of one only
abbrev pub CutsAreOne : Type 0
CutsAreOne = (body : List ℕ) (ps qs : List Piece) → IsCutInto body ps → IsCutInto body qs → ps ≡ qs

-- the shielded body is that of its pieces, and it is refused just where one of them is bad
abbrev pub PiecesAreShielded : Type 0
PiecesAreShielded = (body : List ℕ) (pieces : List Piece) → IsCutInto body pieces
    → shield_of body ≡ (if some_bad pieces then None else Some (shielded pieces))
