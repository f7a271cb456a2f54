-- A body whose tokens are read is cut into pieces, none of which is bad, and its shield has the same tokens, with texts for numbers.
use Rattle.std.proofs.Common.{◌≡◌, ℕ, zero, suc, ◌+◌, ◌<◌, ◌==◌, ◌||◌, cond, Bool, true, false, List, [], ◌∷◌, ◌++◌, length, take, drop, Option, Some, None, refl, sym, ap, ap₂, ◌∙◌, subst, arith, true≢false, codes, inl, inr, append_assoc, is_some, is_none, length-append, IsUtf8, get_or}
use Rattle.std.specs.Prelude.{if◌then◌else◌}
use Rattle.std.proofs.Math.Seq.{take-append_seam, drop-append_seam}
use Rattle.std.proofs.lemmas.Bool.{eqb-true, cases_Bool, or_cases}
use Rattle.std.proofs.lemmas.Str.{IsUtf8-append, IsUtf8-nil, IsUtf8-from_ascii, IsUtf8-take, IsUtf8-drop, IsCharBoundary-after_ascii}
use Rattle.std.specs.List.{list_all, prefix_len}
use Rattle.json.specs.Token.{Token, string, boolean, null}
use Rattle.json.specs.Word.{is_operator, is_space, ends_word, word}
use Rattle.json.specs.Lex.{token, operator_lexeme, between, lex, begins_colon}
use Rattle.json.specs.Print.{IsNumber}
use Rattle.json.specs.Text.{plain, content}
use Rattle.json.proofs.Printed.Numbers.{lex-number, in_word-ended}
use Rattle.adr_value.specs.Body.{Letter, Piece, Text, Number, Other, letters_bytes, is_letter, has_nul, joined, begins, ArePieces, some_bad, shielded}
use Rattle.adr_value.specs.Shield.{starts_run, is_run_byte, quoted, names_member, is_space as is_blank, begins_with}
use Rattle.adr_value.specs.Number.{Number as Decimal}
use Rattle.adr_value.specs.Value.{number_of}
use Rattle.adr_read.specs.Tokens.{fits}
use Rattle.adr_read.proofs.Punctuated.{shielded_lexeme, shielded_lexemes}
use Rattle.adr_read.proofs.Strings.{lex-letters}
use Rattle.adr_read.proofs.Numerals.{AllRun, all_run, run_bounds, lex-quoted, text_lexed}

pub record Cut (t : List ℕ) : Type 0 where
  pub pieces : List Piece
  pub whole : joined pieces ≡ t
  pub kinds : ArePieces pieces
  pub fine : some_bad pieces ≡ false
  pub same : lex between (shielded pieces) ≡ shielded_lexemes (lex between t)
  pub ends : ends_word t ≡ true → ends_word (shielded pieces) ≡ true
  pub utf8 : IsUtf8 t → IsUtf8 (shielded pieces)

pub cut_nothing : Cut []
unfolding lex
cut_nothing = record { pieces = []; whole = refl; kinds = tt; fine = refl; same = refl; ends = λ e. e; utf8 = λ u. u }

-- ---- UTF-8

ascii_one : (x : ℕ) → x < 128 → IsUtf8 (x ∷ [])
ascii_one x small = IsUtf8-from_ascii (x ∷ []) (λ k. below k)
  where
    below : (k : ℕ) → get_or (x ∷ []) k 0 < 128
    below zero = small
    below (suc k) = omega arith

pub utf8-behind : (x : ℕ) (xs : List ℕ) → x < 128 → IsUtf8 (x ∷ xs) → IsUtf8 xs
utf8-behind x xs small u =
    IsUtf8-drop (x ∷ xs) 1 u (IsCharBoundary-after_ascii (x ∷ xs) 0 u (omega arith) small)

get_seam : (xs : List ℕ) (c : ℕ) (rest : List ℕ) → get_or ((xs ++ c ∷ []) ++ rest) (length xs) 0 ≡ c
get_seam [] c rest = refl
get_seam (x ∷ xs) c rest = get_seam xs c rest

utf8-seam : (xs : List ℕ) (c : ℕ) (rest : List ℕ) → c < 128 → IsUtf8 ((xs ++ c ∷ []) ++ rest) → IsUtf8 (xs ++ c ∷ []) × IsUtf8 rest
utf8-seam xs c rest small u =
    let all = (xs ++ c ∷ []) ++ rest in
    let size : length (xs ++ c ∷ []) ≡ length xs + 1 = length-append xs (c ∷ []) in
    let more : length all ≡ length (xs ++ c ∷ []) + length rest = length-append (xs ++ c ∷ []) rest in
    let low : get_or all (length xs) 0 < 128 = subst (λ y. y < 128) (sym (get_seam xs c rest)) small in
    let boundary = IsCharBoundary-after_ascii all (length xs) u (omega arith) low in (
      subst IsUtf8 (ap (λ n. take n all) (sym size) ∙ take-append_seam (xs ++ c ∷ []) rest) (IsUtf8-take all (length xs + 1) u boundary),
      subst IsUtf8 (ap (λ n. drop n all) (sym size) ∙ drop-append_seam (xs ++ c ∷ []) rest) (IsUtf8-drop all (length xs + 1) u boundary),
    )

utf8-run : (run : List ℕ) → AllRun run → IsUtf8 run
utf8-run [] h = IsUtf8-nil
utf8-run (c ∷ run) h = IsUtf8-append (c ∷ []) run (ascii_one c (run_bounds c h.0).1) (utf8-run run h.1)

utf8-behind_run : (run rest : List ℕ) → AllRun run → IsUtf8 (run ++ rest) → IsUtf8 rest
utf8-behind_run [] rest h u = u
utf8-behind_run (c ∷ run) rest h u = utf8-behind_run run rest h.1 (utf8-behind c (run ++ rest) (run_bounds c h.0).1 u)

ascii_then : (x : ℕ) (xs : List ℕ) → x < 128 → IsUtf8 xs → IsUtf8 (x ∷ xs)
ascii_then x xs small u = IsUtf8-append (x ∷ []) xs (ascii_one x small) u

utf8-quoted : (run : List ℕ) → AllRun run → IsUtf8 (quoted run)
utf8-quoted run h =
    let six : IsUtf8 (run ++ codes "\"") = IsUtf8-append run (34 ∷ []) (utf8-run run h) (ascii_one 34 (omega arith)) in
    subst IsUtf8 (simp append_assoc refl)
    (ascii_then 34 _ (omega arith) (ascii_then 92 _ (omega arith) (ascii_then 117 _ (omega arith) (ascii_then 48 _ (omega arith) (ascii_then 48 _ (omega arith) (ascii_then 48 _ (omega arith) (ascii_then 48 _ (omega arith) six)))))))

-- ---- bytes that are no text and no number

-- pieces of t that the shield makes u of
record Half (t u : List ℕ) : Type 0 where
  pieces : List Piece
  whole : joined pieces ≡ t
  kinds : ArePieces pieces
  fine : some_bad pieces ≡ false
  shield : shielded pieces ≡ u
  utf8 : IsUtf8 t → IsUtf8 u

half : (t : List ℕ) (c : Cut t) → Half t (shielded c.pieces)
half t c = record { pieces = c.pieces; whole = c.whole; kinds = c.kinds; fine = c.fine; shield = refl; utf8 = c.utf8 }

-- the byte is copied
abbrev IsCopied : ℕ → Type 0
IsCopied x = ((x == 34) ≡ false) × (starts_run x ≡ false) × (x < 128)

copied : (x : ℕ) (t u : List ℕ) → IsCopied x → Half t u → Half (x ∷ t) (x ∷ u)
copied x t u is h = record {
  pieces = Other x ∷ h.pieces;
  whole = ap (λ ys. x ∷ ys) h.whole;
  kinds = ((is.0, is.1), h.kinds);
  fine = h.fine;
  shield = ap (λ ys. x ∷ ys) h.shield;
  utf8 = λ v. ascii_then x u is.2 (h.utf8 (utf8-behind x t is.2 v));
}

cut_of : (t u : List ℕ) → Half t u → lex between u ≡ shielded_lexemes (lex between t) → (ends_word t ≡ true → ends_word u ≡ true) → Cut t
cut_of t u h same ends = record {
  pieces = h.pieces;
  whole = h.whole;
  kinds = h.kinds;
  fine = h.fine;
  same = ap (lex between) h.shield ∙ same;
  ends = λ e. ap ends_word h.shield ∙ ends e;
  utf8 = λ v. subst IsUtf8 (sym h.shield) (h.utf8 v);
}

-- ---- operators and white space

abbrev at : (P : ℕ → Type 0) (c x : ℕ) → P c → (x == c) ≡ true → P x
at P c x p e = subst P (sym (eqb-true x c e)) p

pub operators : (P : ℕ → Type 0) → P 123 → P 125 → P 91 → P 93 → P 58 → P 44 → (x : ℕ) → is_operator x ≡ true → P x
operators P a b c d e f x is = elim (or_cases _ (x == 44) is) [
  | inr h ↦ at P 44 x f h
  | inl g ↦ elim (or_cases _ (x == 58) g) [
    | inr h ↦ at P 58 x e h
    | inl g ↦ elim (or_cases _ (x == 93) g) [
      | inr h ↦ at P 93 x d h
      | inl g ↦ elim (or_cases _ (x == 91) g) [
        | inr h ↦ at P 91 x c h
        | inl g ↦ elim (or_cases (x == 123) (x == 125) g) [
          | inr h ↦ at P 125 x b h
          | inl h ↦ at P 123 x a h
        ]
      ]
    ]
  ]
]

spaces : (P : ℕ → Type 0) → P 32 → P 9 → P 10 → P 13 → (x : ℕ) → is_space x ≡ true → P x
spaces P a b c d x is = elim (or_cases _ (x == 13) is) [
  | inr h ↦ at P 13 x d h
  | inl g ↦ elim (or_cases _ (x == 10) g) [
    | inr h ↦ at P 10 x c h
    | inl g ↦ elim (or_cases (x == 32) (x == 9) g) [
      | inr h ↦ at P 9 x b h
      | inl h ↦ at P 32 x a h
    ]
  ]
]

operator_copied : (x : ℕ) → is_operator x ≡ true → IsCopied x
operator_copied = operators IsCopied (refl, refl, omega arith) (refl, refl, omega arith) (refl, refl, omega arith) (refl, refl, omega arith) (refl, refl, omega arith) (refl, refl, omega arith)

space_copied : (x : ℕ) → is_space x ≡ true → IsCopied x
space_copied = spaces IsCopied (refl, refl, omega arith) (refl, refl, omega arith) (refl, refl, omega arith) (refl, refl, omega arith)

abbrev pub LexedAs : ℕ → Type 0
LexedAs x = (xs : List ℕ) → lex between (x ∷ xs) ≡ operator_lexeme x ∷ lex between xs

pub operator_lexed : (x : ℕ) → is_operator x ≡ true → LexedAs x
unfolding lex
operator_lexed = operators LexedAs (λ xs. refl) (λ xs. refl) (λ xs. refl) (λ xs. refl) (λ xs. refl) (λ xs. refl)

operator_kept : (x : ℕ) → is_operator x ≡ true → shielded_lexeme (operator_lexeme x) ≡ operator_lexeme x
operator_kept = operators (λ x. shielded_lexeme (operator_lexeme x) ≡ operator_lexeme x) refl refl refl refl refl refl

abbrev Passed : ℕ → Type 0
Passed x = (xs : List ℕ) → lex between (x ∷ xs) ≡ lex between xs

space_lexed : (x : ℕ) → is_space x ≡ true → Passed x
unfolding lex
space_lexed = spaces Passed (λ xs. refl) (λ xs. refl) (λ xs. refl) (λ xs. refl)

pub cut_operator : (x : ℕ) (xs : List ℕ) → is_operator x ≡ true → Cut xs → Cut (x ∷ xs)
cut_operator x xs is c =
    cut_of (x ∷ xs) (x ∷ shielded c.pieces) (copied x xs (shielded c.pieces) (operator_copied x is) (half xs c))
    (operator_lexed x is (shielded c.pieces) ∙ ap (λ ls. operator_lexeme x ∷ ls) c.same ∙ ap (λ l. l ∷ shielded_lexemes (lex between xs)) (sym (operator_kept x is)) ∙ ap shielded_lexemes (sym (operator_lexed x is xs))) (λ e. e)

pub cut_space : (x : ℕ) (xs : List ℕ) → is_space x ≡ true → Cut xs → Cut (x ∷ xs)
cut_space x xs is c =
    cut_of (x ∷ xs) (x ∷ shielded c.pieces) (copied x xs (shielded c.pieces) (space_copied x is) (half xs c))
    (space_lexed x is (shielded c.pieces) ∙ c.same ∙ ap shielded_lexemes (sym (space_lexed x is xs))) (λ e. e)

-- ---- the three literals

pub lex-true : (r : List ℕ) → ends_word r ≡ true → lex between (116 ∷ 114 ∷ 117 ∷ 101 ∷ r) ≡ token (boolean true) ∷ lex between r
unfolding lex word
lex-true r e = ap₂ (λ b l. token (cond b (boolean true) Token.bad) ∷ l) e (in_word-ended r e)

pub lex-false : (r : List ℕ) → ends_word r ≡ true → lex between (102 ∷ 97 ∷ 108 ∷ 115 ∷ 101 ∷ r) ≡ token (boolean false) ∷ lex between r
unfolding lex word
lex-false r e = ap₂ (λ b l. token (cond b (boolean false) Token.bad) ∷ l) e (in_word-ended r e)

pub lex-null : (r : List ℕ) → ends_word r ≡ true → lex between (110 ∷ 117 ∷ 108 ∷ 108 ∷ r) ≡ token null ∷ lex between r
unfolding lex word
lex-null r e = ap₂ (λ b l. token (cond b null Token.bad) ∷ l) e (in_word-ended r e)

one_letter : (x : ℕ) → ((x == 34) ≡ false) → (starts_run x ≡ false) → x < 128 → (t u : List ℕ) → Half t u → Half (x ∷ t) (x ∷ u)
one_letter x q r small t u h = copied x t u (q, r, small) h

pub cut_true : (r : List ℕ) → ends_word r ≡ true → Cut r → Cut (116 ∷ 114 ∷ 117 ∷ 101 ∷ r)
cut_true r e c =
    let u = shielded c.pieces in
    cut_of (116 ∷ 114 ∷ 117 ∷ 101 ∷ r) (116 ∷ 114 ∷ 117 ∷ 101 ∷ u)
    (one_letter 116 refl refl (omega arith) _ _ (one_letter 114 refl refl (omega arith) _ _ (one_letter 117 refl refl (omega arith) _ _ (one_letter 101 refl refl (omega arith) _ _ (half r c)))))
    (lex-true u (c.ends e) ∙ ap (λ ls. token (boolean true) ∷ ls) c.same ∙ ap shielded_lexemes (sym (lex-true r e))) (λ h. h)

pub cut_false : (r : List ℕ) → ends_word r ≡ true → Cut r → Cut (102 ∷ 97 ∷ 108 ∷ 115 ∷ 101 ∷ r)
cut_false r e c =
    let u = shielded c.pieces in
    cut_of (102 ∷ 97 ∷ 108 ∷ 115 ∷ 101 ∷ r) (102 ∷ 97 ∷ 108 ∷ 115 ∷ 101 ∷ u)
    (one_letter 102 refl refl (omega arith) _ _ (one_letter 97 refl refl (omega arith) _ _ (one_letter 108 refl refl (omega arith) _ _ (one_letter 115 refl refl (omega arith) _ _ (one_letter 101 refl refl (omega arith) _ _ (half r c))))))
    (lex-false u (c.ends e) ∙ ap (λ ls. token (boolean false) ∷ ls) c.same ∙ ap shielded_lexemes (sym (lex-false r e))) (λ h. h)

pub cut_null : (r : List ℕ) → ends_word r ≡ true → Cut r → Cut (110 ∷ 117 ∷ 108 ∷ 108 ∷ r)
cut_null r e c =
    let u = shielded c.pieces in
    cut_of (110 ∷ 117 ∷ 108 ∷ 108 ∷ r) (110 ∷ 117 ∷ 108 ∷ 108 ∷ u)
    (one_letter 110 refl refl (omega arith) _ _ (one_letter 117 refl refl (omega arith) _ _ (one_letter 108 refl refl (omega arith) _ _ (one_letter 108 refl refl (omega arith) _ _ (half r c)))))
    (lex-null u (c.ends e) ∙ ap (λ ls. token null ∷ ls) c.same ∙ ap shielded_lexemes (sym (lex-null r e))) (λ h. h)

-- ---- a text

pub cut_text : (letters : List Letter) (rest s : List ℕ) → list_all is_letter letters ≡ true → has_nul letters ≡ false
    → ((ys : List ℕ) → content plain (letters_bytes letters ++ 34 ∷ ys) ≡ Some s) → Cut rest → Cut (34 ∷ letters_bytes letters ++ 34 ∷ rest)
cut_text letters rest s fine nul read c =
    let front = letters_bytes letters in
    let lexed : (ys : List ℕ) → lex between (34 ∷ front ++ 34 ∷ ys) ≡ token (string s) ∷ lex between ys =
    λ ys. text_lexed (front ++ 34 ∷ ys) s (lex between ys) (read ys) (lex-letters letters ys fine) in
    let shape : (ys : List ℕ) → (34 ∷ front ++ 34 ∷ []) ++ ys ≡ 34 ∷ front ++ 34 ∷ ys = λ ys. ap (λ xs. 34 ∷ xs) (append_assoc front (34 ∷ []) ys) in
    record {
      pieces = Text letters (34 ∷ []) ∷ c.pieces;
      whole = shape (joined c.pieces) ∙ ap (λ ys. 34 ∷ front ++ 34 ∷ ys) c.whole;
      kinds = ((fine, inl refl), c.kinds);
      fine = rw nul c.fine;
      same = ap (lex between) (shape (shielded c.pieces)) ∙ lexed (shielded c.pieces) ∙ ap (λ ls. token (string s) ∷ ls) c.same ∙ ap shielded_lexemes (sym (lexed rest));
      ends = λ h. h;
      utf8 = λ u.
          let both = utf8-seam (34 ∷ front) 34 rest (omega arith) (subst IsUtf8 (sym (shape rest)) u) in
          IsUtf8-append (34 ∷ front ++ 34 ∷ []) (shielded c.pieces) both.0 (c.utf8 both.1);
    }

-- ---- a number

abbrev NoWordEnd : ℕ → Type 0
NoWordEnd x = (is_run_byte x ≡ false) × (starts_run x ≡ false)

word_end : (x : ℕ) → (is_operator x || is_space x) ≡ true → NoWordEnd x
word_end x h = elim (or_cases (is_operator x) (is_space x) h) [
  | inl o ↦ operators NoWordEnd (refl, refl) (refl, refl) (refl, refl) (refl, refl) (refl, refl) (refl, refl) x o
  | inr s ↦ spaces NoWordEnd (refl, refl) (refl, refl) (refl, refl) (refl, refl) x s
]

ended_run : (rest : List ℕ) → ends_word rest ≡ true → begins is_run_byte rest ≡ false
ended_run [] h = refl
ended_run (x ∷ xs) h = (word_end x h).0

abbrev FirstIsColon : List ℕ → Type 0
FirstIsColon t = begins_colon (lex between t) ≡ true

colon_first : (x : ℕ) (xs : List ℕ) → (x == 58) ≡ true → FirstIsColon (x ∷ xs)
unfolding lex
colon_first x xs e = subst (λ y. FirstIsColon (y ∷ xs)) (sym (eqb-true x 58 e)) refl

named_by : (b : Bool) (x n : ℕ) (xs : List ℕ) → is_space x ≡ b → (begins_with 58 (drop n xs) ≡ true → FirstIsColon xs) → begins_with 58 (drop (cond b (1 + n) 0) (x ∷ xs)) ≡ true → FirstIsColon (x ∷ xs)
named_by true x n xs is later h =
    let next : 1 + n ≡ suc n = omega arith in
    ap begins_colon (space_lexed x is xs) ∙ later (ap (λ k. begins_with 58 (drop k (x ∷ xs))) (sym next) ∙ h)
named_by false x n xs is later h = colon_first x xs h

named : (t : List ℕ) → names_member t ≡ true → FirstIsColon t
named [] h = absurd (true≢false (sym h))
named (x ∷ xs) h = named_by (is_space x) x (prefix_len is_blank xs) xs refl (named xs) h

no_name : (t : List ℕ) → begins_colon (lex between t) ≡ false → names_member t ≡ false
no_name t none = elim (cases_Bool (names_member t)) [
  | inl h ↦ absurd (true≢false (sym (named t h) ∙ none))
  | inr h ↦ h
]

there : (o : Option Decimal) → is_some o ≡ true → is_none o ≡ false
there None e = absurd (true≢false (sym e))
there (Some n) e = refl

pub cut_number : (x : ℕ) (xs rest : List ℕ) → starts_run x ≡ true → AllRun (x ∷ xs) → IsNumber (x ∷ xs) → fits (x ∷ xs) ≡ true → ends_word rest ≡ true → begins_colon (lex between rest) ≡ false → Cut rest → Cut ((x ∷ xs) ++ rest)
cut_number x xs rest starts all is fit ended none c =
    let run = x ∷ xs in
    record {
      pieces = Number run ∷ c.pieces;
      whole = ap (λ ys. run ++ ys) c.whole;
      kinds = ((starts, all_run run all, ap (begins is_run_byte) c.whole ∙ ended_run rest ended), c.kinds);
      fine = rw (there (number_of run) fit, c.whole, no_name rest none) c.fine;
      same = lex-quoted run (shielded c.pieces) all ∙ ap (λ ls. token (string (0 ∷ run)) ∷ ls) c.same
          ∙ ap (λ b. token (if b then string (0 ∷ run) else Token.bad) ∷ shielded_lexemes (lex between rest)) (sym fit)
          ∙ ap shielded_lexemes (sym (lex-number run rest is ended));
      ends = λ h. absurd (true≢false (sym starts ∙ (word_end x h).1));
      utf8 = λ u. IsUtf8-append (quoted run) (shielded c.pieces) (utf8-quoted run all) (c.utf8 (utf8-behind_run run rest all u));
    }
