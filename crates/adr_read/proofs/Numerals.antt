-- A number of a body, and the text that the shield makes of it.
use Rattle.std.proofs.Common.{◌≡◌, ℕ, suc, ◌+◌, ◌<◌, ◌≤◌, ◌==◌, ◌||◌, cond, Bool, true, false, List, [], ◌∷◌, ◌++◌, drop, Option, Some, None, option_and_then, refl, sym, ap, ◌∙◌, subst, arith, true≢false, codes, inl, inr, append_assoc, nat_le}
use Rattle.std.specs.Prelude.{⊤}
use Rattle.std.proofs.lemmas.Bool.{eqb-true, cases_Bool, leb-true, and_parts, or_cases, le-ltb}
use Rattle.std.specs.List.{list_all, prefix_len}
use Rattle.std.specs.Char.{is_ascii_digit}
use Rattle.json.specs.Token.{string}
use Rattle.std.proofs.lemmas.Str.{encode_ascii}
use Rattle.json.specs.Text.{plain, content, code_unit}
use Rattle.json.specs.Word.{head, after_digits, after_minus, after_sign, after_whole, after_fraction, after_exponent, after_number}
use Rattle.json.specs.Lex.{Lexeme, token, between, in_string, lex}
use Rattle.adr_value.specs.Shield.{is_run_byte, starts_run, quoted}
use Rattle.adr_value.specs.Body.{Letter, Plain, letters_bytes, is_letter}
use Rattle.adr_read.proofs.Strings.{lex-letters, plain_letter, plain_read}

-- each byte goes on with a number
abbrev pub AllRun : List ℕ → Type 0
AllRun [] = ⊤
AllRun (c ∷ cs) = (is_run_byte c ≡ true) × AllRun cs

pub all_run : (run : List ℕ) → AllRun run → list_all is_run_byte run ≡ true
all_run [] h = refl
all_run (c ∷ run) h = rw h.0 (all_run run h.1)

AllRun-append : (xs ys : List ℕ) → AllRun xs → AllRun ys → AllRun (xs ++ ys)
AllRun-append [] ys h k = k
AllRun-append (x ∷ xs) ys h k = (h.0, AllRun-append xs ys h.1 k)

-- ---- what is left of t stands behind bytes of a number

abbrev pub Behind : List ℕ → List ℕ → Type 0
Behind t r = (front : List ℕ) × (t ≡ front ++ r) × AllRun front

behind_nothing : (t : List ℕ) → Behind t t
behind_nothing t = ([], refl, tt)

further : (t u r : List ℕ) → Behind t u → Behind u r → Behind t r
further t u r h k = (h.0 ++ k.0, h.1 ∙ ap (λ xs. h.0 ++ xs) k.1 ∙ sym (append_assoc h.0 k.0 r), AllRun-append h.0 k.0 h.2 k.2)

abbrev Leaves : List ℕ → Option (List ℕ) → Type 0
Leaves t None = ⊤
Leaves t (Some r) = Behind t r

onward : (t u : List ℕ) (o : Option (List ℕ)) → Behind t u → Leaves u o → Leaves t o
onward t u None h k = tt
onward t u (Some r) h k = further t u r h k

either : (t : List ℕ) (b : Bool) (x y : Option (List ℕ)) → (b ≡ true → Leaves t x) → Leaves t y → Leaves t (cond b x y)
either t true x y p q = p refl
either t false x y p q = q

-- one byte
one : (c : ℕ) (t : List ℕ) → is_run_byte c ≡ true → (head t == c) ≡ true → (c == 32) ≡ false → Behind t (drop 1 t)
one c [] run e space = absurd (true≢false (ap (λ y. y == 32) (eqb-true 32 c e) ∙ space))
one c (x ∷ xs) run e space = (x ∷ [], refl, (ap is_run_byte (eqb-true x c e) ∙ run, tt))

one_or_none : (b : Bool) (t : List ℕ) → (b ≡ true → Behind t (drop 1 t)) → Behind t (cond b (drop 1 t) t)
one_or_none true t h = h refl
one_or_none false t h = behind_nothing t

digit_is_run : (x : ℕ) → is_ascii_digit x ≡ true → is_run_byte x ≡ true
digit_is_run x e = rw e refl

digit_run_at : (b : Bool) (x : ℕ) (xs : List ℕ) (n : ℕ) → (b ≡ true → is_run_byte x ≡ true) → Behind xs (drop n xs) → Behind (x ∷ xs) (drop (cond b (1 + n) 0) (x ∷ xs))
digit_run_at false x xs n h k = behind_nothing (x ∷ xs)
digit_run_at true x xs n h k =
    let next : suc n ≡ 1 + n = omega arith in
    subst (λ m. Behind (x ∷ xs) (drop m (x ∷ xs))) next (x ∷ k.0, ap (λ ys. x ∷ ys) k.1, (h refl, k.2))

digit_run : (t : List ℕ) → Behind t (drop (prefix_len is_ascii_digit t) t)
digit_run [] = behind_nothing []
digit_run (x ∷ xs) = digit_run_at (is_ascii_digit x) x xs (prefix_len is_ascii_digit xs) (digit_is_run x) (digit_run xs)

digits : (t : List ℕ) → Leaves t (after_digits t)
digits t = either t (prefix_len is_ascii_digit t == 0) None _ (λ _. tt) (digit_run t)

minus : (t : List ℕ) → Behind t (after_minus t)
minus t = one_or_none (head t == 45) t (λ e. one 45 t refl e refl)

sign : (t : List ℕ) → Behind t (after_sign t)
sign t = one_or_none ((head t == 45) || (head t == 43)) t (λ e. elim (or_cases (head t == 45) (head t == 43) e) [
  | inl m ↦ one 45 t refl m refl
  | inr p ↦ one 43 t refl p refl
])

whole : (t : List ℕ) → Leaves t (after_whole t)
whole t = either t (head t == 48) (Some (drop 1 t)) _ (λ e. one 48 t refl e refl) (digits t)

fraction : (t : List ℕ) → Leaves t (after_fraction t)
fraction t = either t (head t == 46) _ (Some t) (λ e. onward t (drop 1 t) _ (one 46 t refl e refl) (digits (drop 1 t))) (behind_nothing t)

exponent : (t : List ℕ) → Leaves t (after_exponent t)
exponent t =
    let u = drop 1 t in
    either t ((head t == 101) || (head t == 69)) _ (Some t)
    (λ e. onward t (after_sign u) _ (further t u (after_sign u) (letter e) (sign u)) (digits (after_sign u))) (behind_nothing t)
  where
    letter : ((head t == 101) || (head t == 69)) ≡ true → Behind t (drop 1 t)
    letter e = elim (or_cases (head t == 101) (head t == 69) e) [
      | inl l ↦ one 101 t refl l refl
      | inr u ↦ one 69 t refl u refl
    ]

then : (t : List ℕ) (f : List ℕ → Option (List ℕ)) → ((u : List ℕ) → Leaves u (f u)) → (o : Option (List ℕ)) → Leaves t o → Leaves t (option_and_then f o)
then t f g None h = tt
then t f g (Some r) h = onward t r (f r) h (g r)

leaves_number : (t : List ℕ) → Leaves t (after_number t)
unfolding after_number
leaves_number t =
    let u = after_minus t in
    then t after_exponent exponent _ (then t after_fraction fraction _ (onward t u _ (minus t) (whole u)))

pub number_front : (t r : List ℕ) → after_number t ≡ Some r → Behind t r
number_front t r e = subst (Leaves t) e (leaves_number t)

-- ---- its first byte

abbrev Found : Option (List ℕ) → Type 0
Found None = ⊥
Found (Some r) = ⊤

back : (f : List ℕ → Option (List ℕ)) (o : Option (List ℕ)) → Found (option_and_then f o) → Found o
back f None h = h
back f (Some t) h = tt

first_digit : (b : Bool) (n : ℕ) (t : List ℕ) → Found (cond (cond b (1 + n) 0 == 0) None (Some (drop (cond b (1 + n) 0) t))) → b ≡ true
first_digit true n t h = refl
first_digit false n t h = absurd h

whole_first : (x : ℕ) (xs : List ℕ) (z : Bool) → (x == 48) ≡ z → Found (cond z (Some xs) (after_digits (x ∷ xs))) → is_ascii_digit x ≡ true
whole_first x xs true e h = ap is_ascii_digit (eqb-true x 48 e)
whole_first x xs false e h = first_digit (is_ascii_digit x) (prefix_len is_ascii_digit xs) (x ∷ xs) h

or_right : (a b : Bool) → b ≡ true → (a || b) ≡ true
or_right true b e = refl
or_right false b e = e

starts_at : (x : ℕ) (xs : List ℕ) (m : Bool) → (x == 45) ≡ m → Found (after_whole (cond m xs (x ∷ xs))) → starts_run x ≡ true
starts_at x xs true e h = or_right (is_ascii_digit x) (x == 45) e
starts_at x xs false e h = ap (λ b. b || (x == 45)) (whole_first x xs (x == 48) refl h)

pub number_starts : (x : ℕ) (xs r : List ℕ) → after_number (x ∷ xs) ≡ Some r → starts_run x ≡ true
unfolding after_number
number_starts x xs r e = starts_at x xs (x == 45) refl (back after_fraction _ (back after_exponent _ (subst Found (sym e) tt)))

-- ---- the text that the shield makes of it

pub run_bounds : (c : ℕ) → is_run_byte c ≡ true → (32 ≤ c) × (c < 128)
run_bounds c e = elim (or_cases _ (c == 69) e) [
  | inr a ↦ let is = eqb-true c 69 a in (omega (arith, is), omega (arith, is))
  | inl f ↦ elim (or_cases _ (c == 101) f) [
    | inr a ↦ let is = eqb-true c 101 a in (omega (arith, is), omega (arith, is))
    | inl g ↦ elim (or_cases _ (c == 46) g) [
      | inr a ↦ let is = eqb-true c 46 a in (omega (arith, is), omega (arith, is))
      | inl h ↦ elim (or_cases _ (c == 45) h) [
        | inr a ↦ let is = eqb-true c 45 a in (omega (arith, is), omega (arith, is))
        | inl k ↦ elim (or_cases (is_ascii_digit c) (c == 43) k) [
          | inr a ↦ let is = eqb-true c 43 a in (omega (arith, is), omega (arith, is))
          | inl d ↦
              let p = and_parts (nat_le 48 c) (nat_le c 57) d in
              (omega (arith, leb-true 48 c p.0), omega (arith, leb-true c 57 p.1))
        ]
      ]
    ]
  ]
]

run_not : (c d : ℕ) → is_run_byte d ≡ false → is_run_byte c ≡ true → (c == d) ≡ false
run_not c d other e = elim (cases_Bool (c == d)) [
  | inl same ↦ absurd (true≢false (sym e ∙ ap is_run_byte (eqb-true c d same) ∙ other))
  | inr apart ↦ apart
]

run_letters : List ℕ → List Letter
run_letters [] = []
run_letters (c ∷ run) = Plain c ∷ run_letters run

run_letters-bytes : (run : List ℕ) → letters_bytes (run_letters run) ≡ run
unfolding run_letters
run_letters-bytes [] = refl
run_letters-bytes (c ∷ run) = ap (λ xs. c ∷ xs) (run_letters-bytes run)

run_letters-fine : (run : List ℕ) → AllRun run → list_all is_letter (run_letters run) ≡ true
unfolding run_letters
run_letters-fine [] h = refl
run_letters-fine (c ∷ run) h = rw (plain_letter c (run_not c 34 refl h.0) (run_not c 92 refl h.0)) (run_letters-fine run h.1)

run_read : (run rest : List ℕ) → AllRun run → content plain (run ++ 34 ∷ rest) ≡ Some run
unfolding content
run_read [] rest h = refl
run_read (c ∷ run) rest h =
    plain_read c (run ++ 34 ∷ rest) run (c ∷ run) (run_not c 34 refl h.0) (run_not c 92 refl h.0) (le-ltb c 32 (run_bounds c h.0).0) (run_read run rest h.1) refl

nul_read : (zs t : List ℕ) → content plain zs ≡ Some t → content plain (codes "\\u0000" ++ zs) ≡ Some (0 ∷ t)
unfolding content code_unit
nul_read zs t e = rw e (ap (λ xs. Some (xs ++ t)) (encode_ascii 0 (omega arith)))

nul_lexed : (zs : List ℕ) → lex in_string (codes "\\u0000" ++ zs) ≡ lex in_string zs
unfolding lex
nul_lexed zs = refl

pub text_lexed : (zs s : List ℕ) (ls : List Lexeme) → content plain zs ≡ Some s → lex in_string zs ≡ ls → lex between (34 ∷ zs) ≡ token (string s) ∷ ls
unfolding lex
text_lexed zs s ls e f = rw (e, f) refl

pub lex-quoted : (run rest : List ℕ) → AllRun run → lex between (quoted run ++ rest) ≡ token (string (0 ∷ run)) ∷ lex between rest
lex-quoted run rest h =
    let shape : quoted run ++ rest ≡ 34 ∷ codes "\\u0000" ++ run ++ 34 ∷ rest = simp append_assoc refl in
    let bytes : run ++ 34 ∷ rest ≡ letters_bytes (run_letters run) ++ 34 ∷ rest = ap (λ xs. xs ++ 34 ∷ rest) (sym (run_letters-bytes run)) in
    ap (lex between) shape ∙ text_lexed (codes "\\u0000" ++ run ++ 34 ∷ rest) (0 ∷ run) (lex between rest) (nul_read (run ++ 34 ∷ rest) run (run_read run rest h))
    (nul_lexed (run ++ 34 ∷ rest) ∙ ap (lex in_string) bytes ∙ lex-letters (run_letters run) rest (run_letters-fine run h))
