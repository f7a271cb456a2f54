-- What a body without a NUL reads as, where each number in it counts as a text, is what its shield reads as.
use Rattle.std.proofs.Common.{◌≡◌, ℕ, zero, suc, ◌<◌, ◌≤◌, ◌==◌, ◌⊎◌, cond, Bool, true, false, List, [], ◌∷◌, ◌++◌, length, take, drop, Option, Some, None, refl, sym, ap, ◌∙◌, subst, arith, nat_eq, inl, inr, length-append, IsUtf8}
use Rattle.std.specs.Prelude.{if◌then◌else◌}
use Rattle.std.proofs.lemmas.Bool.{eqb-true, and_parts}
use Rattle.std.proofs.lemmas.List.{take-append-drop}
use Rattle.std.proofs.lemmas.Option.{none-some}
use Rattle.std.proofs.lemmas.Slice.Eq.{bytes_eq-Decides}
use Rattle.std.specs.List.{starts_with}
use Rattle.json.specs.Token.{Token, boolean, null}
use Rattle.json.specs.Ascii as ascii
use Rattle.json.specs.Word.{is_operator, is_space, ends_word, after_number, number_before, literal, word}
use Rattle.json.specs.Lex.{Lexeme, token, quote, backslash, operator, space, other, operator_lexeme, string_token, between, in_word, in_string, lex_byte, lex, punctuate, fresh, tokens}
use Rattle.json.specs.Json as json
use Rattle.json.specs.Json.{value}
use Rattle.json.specs.Text.{plain, content}
use Rattle.json.proofs.Printed.Numbers.{lex-number, number_alone}
use Rattle.adr_value.specs.Body.{letters_bytes, shielded}
use Rattle.adr_value.specs.Shield.{shield_of}
use Rattle.adr_value.proofs.BodyLemmas.{pieces_are_shielded}
use Rattle.adr_read.proofs.GoodTokens.{value_of_good}
use Rattle.adr_read.proofs.Punctuated.{IsRead, AreRead, punctuated_alike}
use Rattle.adr_read.specs.Tokens.{shielded_tokens}
use Rattle.adr_read.specs.Seen.{HasNoNul}
use Rattle.adr_read.proofs.Strings.{no_nul-tail, no_nul-behind, no_nul-letters, closed, lex-letters}
use Rattle.adr_read.proofs.Numerals.{AllRun, number_front, number_starts}
use Rattle.adr_read.proofs.Cuts.{Cut, cut_nothing, cut_operator, cut_space, cut_true, cut_false, cut_null, cut_text, cut_number, lex-true, lex-false, lex-null, operator_lexed, operators}

-- whatever is shorter is cut
abbrev Again : List ℕ → Type 0
Again xs = (t : List ℕ) → length t ≤ length xs → HasNoNul t → AreRead (lex between t) → Cut t

-- ---- a text

text_at : (xs : List ℕ) (o : Option (List ℕ)) → content plain xs ≡ o → Again xs → HasNoNul (34 ∷ xs) → IsRead (string_token o) (lex in_string xs) → AreRead (lex between (34 ∷ xs)) → Cut (34 ∷ xs)
unfolding lex
text_at xs None e again nul first read = absurd first
text_at xs (Some s) e again nul first read =
    let r = closed plain xs s e in
    let inside : HasNoNul (letters_bytes r.letters ++ 34 ∷ r.rest) = subst HasNoNul r.whole (no_nul-tail 34 xs nul) in
    let size = ap length r.whole ∙ length-append (letters_bytes r.letters) (34 ∷ r.rest) in
    let lexed : AreRead (lex between r.rest) = subst AreRead (ap (lex in_string) r.whole ∙ lex-letters r.letters r.rest r.fine) read.1 in
    let behind = no_nul-tail 34 r.rest (no_nul-behind (letters_bytes r.letters) (34 ∷ r.rest) inside) in
    let c = again r.rest (omega (arith, size)) behind lexed in
    subst (λ ys. Cut (34 ∷ ys)) (sym r.whole) (cut_text r.letters r.rest s r.fine (no_nul-letters r.letters r.rest inside) r.read c)

text_step : (xs : List ℕ) → Again xs → HasNoNul (34 ∷ xs) → AreRead (lex between (34 ∷ xs)) → Cut (34 ∷ xs)
unfolding lex
text_step xs again nul read = text_at xs (content plain xs) refl again nul read.0 read

-- ---- a word

abbrev IsLiteral : List ℕ → List ℕ → Type 0
IsLiteral name t = (t ≡ name ++ drop (length name) t) × (ends_word (drop (length name) t) ≡ true)

abbrev IsNumeral : List ℕ → Type 0
IsNumeral t = (r : List ℕ) × (after_number t ≡ Some r) × (ends_word r ≡ true)

read_there : (b : Bool) (t : Token) (ls : List Lexeme) → IsRead (cond b t Token.bad) ls → b ≡ true
read_there true t ls h = refl
read_there false t ls h = absurd h

literal_there : (name t : List ℕ) (k : Token) (ls : List Lexeme) → IsRead (literal name k t) ls → IsLiteral name t
literal_there name t k ls h =
    let n = length name in
    let p = and_parts (starts_with nat_eq t name) (ends_word (drop n t)) (read_there _ k ls h) in
    let front : name ≡ take n t = (bytes_eq-Decides name (take n t)).0 p.0 in
    (sym (take-append-drop n t) ∙ ap (λ ys. ys ++ drop n t) (sym front), p.1)

numeral_there : (t : List ℕ) (o : Option (List ℕ)) (ls : List Lexeme) → after_number t ≡ o → IsRead (number_before t o) ls → IsNumeral t
numeral_there t None ls e h = absurd h
numeral_there t (Some r) ls e h = (r, e, read_there (ends_word r) _ ls h)

abbrev IsWord : List ℕ → Type 0
IsWord t = IsLiteral ascii.true_text t ⊎ (IsLiteral ascii.false_text t ⊎ (IsLiteral ascii.null_text t ⊎ IsNumeral t))

word_cases : (t : List ℕ) (ls : List Lexeme) (a b c : Bool)
    → IsRead (cond a (literal ascii.true_text (boolean true) t) (cond b (literal ascii.false_text (boolean false) t) (cond c (literal ascii.null_text null t) (number_before t (after_number t))))) ls → IsWord t
word_cases t ls true b c h = inl (literal_there ascii.true_text t (boolean true) ls h)
word_cases t ls false true c h = inr (inl (literal_there ascii.false_text t (boolean false) ls h))
word_cases t ls false false true h = inr (inr (inl (literal_there ascii.null_text t null ls h)))
word_cases t ls false false false h = inr (inr (inr (numeral_there t (after_number t) ls refl h)))

word_there : (x : ℕ) (xs : List ℕ) (ls : List Lexeme) → IsRead (word (x ∷ xs)) ls → IsWord (x ∷ xs)
unfolding word
word_there x xs ls h = word_cases (x ∷ xs) ls _ _ _ h

-- what follows the bytes of a word is cut, and so is the whole
behind_word : (x : ℕ) (xs name r : List ℕ) (k : Token) → x ∷ xs ≡ name ++ r → 0 < length name → lex between (name ++ r) ≡ token k ∷ lex between r
    → Again xs → HasNoNul (x ∷ xs) → AreRead (lex between (x ∷ xs)) → Cut r
behind_word x xs name r k is some lexed again nul read =
    let size = ap length is ∙ length-append name r in
    again r (omega (arith, size)) (no_nul-behind name r (subst HasNoNul is nul)) (subst AreRead (ap (lex between) is ∙ lexed) read).1

numeral_step : (x : ℕ) (xs front r : List ℕ) → x ∷ xs ≡ front ++ r → AllRun front → after_number (front ++ r) ≡ Some r → ends_word r ≡ true
    → Again xs → HasNoNul (x ∷ xs) → AreRead (lex between (x ∷ xs)) → Cut (front ++ r)
unfolding after_number
numeral_step x xs [] r is all e ended again nul read = absurd (none-some [] (number_alone [] r ended e))
numeral_step x xs (y ∷ ys) r is all e ended again nul read =
    let number = number_alone (y ∷ ys) r ended e in
    let lexed = lex-number (y ∷ ys) r number ended in
    let first = (subst AreRead (ap (lex between) is ∙ lexed) read).0 in
    cut_number y ys r (number_starts y (ys ++ r) r e) all number first.0 ended first.1
    (behind_word x xs (y ∷ ys) r (Token.number (y ∷ ys)) is (omega arith) lexed again nul read)

word_step : (x : ℕ) (xs : List ℕ) → IsWord (x ∷ xs) → Again xs → HasNoNul (x ∷ xs) → AreRead (lex between (x ∷ xs)) → Cut (x ∷ xs)
word_step x xs (inl h) again nul read =
    let r = drop (length ascii.true_text) (x ∷ xs) in
    subst Cut (sym h.0) (cut_true r h.1 (behind_word x xs ascii.true_text r (boolean true) h.0 (omega arith) (lex-true r h.1) again nul read))
word_step x xs (inr (inl h)) again nul read =
    let r = drop (length ascii.false_text) (x ∷ xs) in
    subst Cut (sym h.0) (cut_false r h.1 (behind_word x xs ascii.false_text r (boolean false) h.0 (omega arith) (lex-false r h.1) again nul read))
word_step x xs (inr (inr (inl h))) again nul read =
    let r = drop (length ascii.null_text) (x ∷ xs) in
    subst Cut (sym h.0) (cut_null r h.1 (behind_word x xs ascii.null_text r null h.0 (omega arith) (lex-null r h.1) again nul read))
word_step x xs (inr (inr (inr h))) again nul read =
    let f = number_front (x ∷ xs) h.0 h.1 in
    subst Cut (sym f.1) (numeral_step x xs f.0 h.0 f.1 f.2 (ap after_number (sym f.1) ∙ h.1) h.2 again nul read)

-- ---- any byte

-- a mark is read with what follows it
abbrev Reads : ℕ → Type 0
Reads x = (ls : List Lexeme) → AreRead (operator_lexeme x ∷ ls) → AreRead ls

operator_read : (x : ℕ) → is_operator x ≡ true → Reads x
operator_read = operators Reads (λ ls h. h.1) (λ ls h. h.1) (λ ls h. h.1) (λ ls h. h.1) (λ ls h. h) (λ ls h. h)

marks_read : (x : ℕ) (xs : List ℕ) → is_operator x ≡ true → AreRead (lex between (x ∷ xs)) → AreRead (lex between xs)
marks_read x xs e read = operator_read x e (lex between xs) (subst AreRead (operator_lexed x e xs) read)

class_step : (q b o s : Bool) (x : ℕ) (xs : List ℕ) → (x == 34) ≡ q → is_operator x ≡ o → is_space x ≡ s → Again xs → HasNoNul (x ∷ xs)
    → AreRead (lex_byte between (cond q quote (cond b backslash (cond o operator (cond s space other)))) x xs (λ m. lex m xs)) → AreRead (lex between (x ∷ xs)) → Cut (x ∷ xs)
class_step true b o s x xs q e f again nul first read =
    let is : x ≡ 34 = eqb-true x 34 q in
    subst (λ y. Cut (y ∷ xs)) (sym is) (text_step xs again (subst (λ y. HasNoNul (y ∷ xs)) is nul) (subst (λ y. AreRead (lex between (y ∷ xs))) is read))
class_step false true o s x xs q e f again nul first read = absurd first.0
class_step false false true s x xs q e f again nul first read = cut_operator x xs e (again xs (omega arith) (no_nul-tail x xs nul) (marks_read x xs e read))
class_step false false false true x xs q e f again nul first read = cut_space x xs f (again xs (omega arith) (no_nul-tail x xs nul) first)
class_step false false false false x xs q e f again nul first read = word_step x xs (word_there x xs (lex in_word xs) first.0) again nul read

step : (x : ℕ) (xs : List ℕ) → Again xs → HasNoNul (x ∷ xs) → AreRead (lex between (x ∷ xs)) → Cut (x ∷ xs)
unfolding lex
step x xs again nul read = class_step (x == 34) (x == 92) (is_operator x) (is_space x) x xs refl refl refl again nul read read

cut_by : (n : ℕ) (t : List ℕ) → length t ≤ n → HasNoNul t → AreRead (lex between t) → Cut t
cut_by n [] le nul read = cut_nothing
cut_by zero (x ∷ xs) le nul read = absurd (omega (arith, le))
cut_by (suc n) (x ∷ xs) le nul read = step x xs (λ t less. cut_by n t (omega (arith, le, less))) nul read

pub cut : (t : List ℕ) → HasNoNul t → AreRead (lex between t) → Cut t
cut t = cut_by (length t) t (omega arith)

-- the tokens of the shielded body
pub record Shields (body : List ℕ) : Type 0 where
  pub out : List ℕ
  pub shield : shield_of body ≡ Some out
  pub same : tokens out ≡ shielded_tokens (tokens body)
  pub utf8 : IsUtf8 body → IsUtf8 out

pub shields : (body : List ℕ) (depth : ℕ) (j : json.Json) → HasNoNul body → value depth (shielded_tokens (tokens body)) ≡ Some (j, []) → Shields body
shields body depth j nul e =
    let alike = punctuated_alike (lex between body) fresh (value_of_good depth (shielded_tokens (tokens body)) j e) in
    let c = cut body nul alike.0 in
    record {
      out = shielded c.pieces;
      shield = pieces_are_shielded body c.pieces (record { whole = c.whole; kinds = c.kinds }) ∙ ap (λ b. if b then None else Some (shielded c.pieces)) c.fine;
      same = ap (punctuate fresh) c.same ∙ alike.1;
      utf8 = c.utf8;
    }
