-- A text of a body, up to the quote that closes it.
use Rattle.std.proofs.Common.{◌≡◌, ◌⊎◌, ℕ, suc, ◌==◌, ◌&&◌, nat_lt, not, cond, Bool, true, false, List, [], ◌∷◌, ◌++◌, Option, Some, None, option_and_then, refl, sym, ap, ◌∙◌, true≢false, codes, nat_eq, inl, inr}
use Rattle.std.proofs.lemmas.Bool.{eqb-true, cases_Bool, and_parts}
use Rattle.std.proofs.lemmas.Option.{none-some, same_Some}
use Rattle.std.specs.List.{list_all, starts_with}
use Rattle.std.specs.Char.{is_digit, encode_utf8}
use Rattle.json.specs.Text.{code_unit, short_escape, is_high_surrogate, is_low_surrogate, surrogate_pair, Within, plain, after_backslash, after_u, after_high, prepend, content}
use Rattle.json.specs.Lex.{operator, space, other, Lexeme, Mode, between, in_string, lex_byte, lex}
use Rattle.adr_value.specs.Body.{Letter, Plain, Escaped, letters_bytes, is_letter, has_nul}
use Rattle.adr_value.specs.Shield.{tells_nul}
use Rattle.adr_read.specs.Seen.{HasNoNul}

pub no_nul-tail : (x : ℕ) (xs : List ℕ) → HasNoNul (x ∷ xs) → HasNoNul xs
no_nul-tail x xs h k = h (suc k)

pub no_nul-behind : (xs ys : List ℕ) → HasNoNul (xs ++ ys) → HasNoNul ys
no_nul-behind [] ys h = h
no_nul-behind (x ∷ xs) ys h = no_nul-behind xs ys (no_nul-tail x (xs ++ ys) h)

-- ---- letters

-- the quote that ends a text adds no zeros
abbrev zeros : List ℕ → Bool
zeros xs = starts_with nat_eq xs (codes "0000")

quote_adds_none : (more xs : List ℕ) → zeros (xs ++ 34 ∷ more) ≡ zeros xs
quote_adds_none more [] = refl
quote_adds_none more (a ∷ []) = refl
quote_adds_none more (a ∷ b ∷ []) = refl
quote_adds_none more (a ∷ b ∷ c ∷ []) = refl
quote_adds_none more (a ∷ b ∷ c ∷ d ∷ xs) = refl

pub no_nul-letters : (letters : List Letter) (rest : List ℕ) → HasNoNul (letters_bytes letters ++ 34 ∷ rest) → has_nul letters ≡ false
no_nul-letters [] rest h = refl
no_nul-letters (Plain c ∷ letters) rest h = no_nul-letters letters rest (no_nul-tail c _ h)
no_nul-letters (Escaped c ∷ letters) rest h =
    let here : tells_nul c (letters_bytes letters) ≡ false = ap (λ b. (c == 117) && b) (sym (quote_adds_none rest (letters_bytes letters))) ∙ h 0 in
    rw here (no_nul-letters letters rest (no_nul-tail c _ (no_nul-tail 92 _ h)))

in_string_any : (o s : Bool) (x : ℕ) (xs : List ℕ) (k : Mode → List Lexeme) → lex_byte in_string (cond o operator (cond s space other)) x xs k ≡ k in_string
in_string_any true s x xs k = refl
in_string_any false true x xs k = refl
in_string_any false false x xs k = refl

pub not_not : (b : Bool) → not b ≡ true → b ≡ false
not_not true e = absurd (true≢false (sym e))
not_not false e = refl

pub lex-letters : (letters : List Letter) (rest : List ℕ) → list_all is_letter letters ≡ true → lex in_string (letters_bytes letters ++ 34 ∷ rest) ≡ lex between rest
unfolding lex
lex-letters [] rest h = refl
lex-letters (Plain c ∷ letters) rest h =
    let p = and_parts (is_letter (Plain c)) (list_all is_letter letters) h in
    let q = and_parts (not (c == 34)) (not (c == 92)) p.0 in
    rw (not_not _ q.0, not_not _ q.1) (in_string_any _ _ c _ (λ m. lex m (letters_bytes letters ++ 34 ∷ rest)) ∙ lex-letters letters rest p.1)
lex-letters (Escaped c ∷ letters) rest h = lex-letters letters rest h

-- ---- what is read up to the quote

-- the byte that a backslash before the text escapes
abbrev lead : Within → ℕ → List ℕ
lead plain c = []
lead after_backslash c = c ∷ []
lead after_u c = []
lead (after_high h) c = []

pub record Closed (w : Within) (xs s : List ℕ) : Type 0 where
  pub escaped : ℕ
  pub letters : List Letter
  pub rest : List ℕ
  pub whole : xs ≡ lead w escaped ++ letters_bytes letters ++ 34 ∷ rest
  pub fine : list_all is_letter letters ≡ true
  pub read : (ys : List ℕ) → content w (lead w escaped ++ letters_bytes letters ++ 34 ∷ ys) ≡ Some s

chosen : {A : Type 0} (b : Bool) (x y : Option A) (s : A) → cond b x y ≡ Some s → ((b ≡ true) × (x ≡ Some s)) ⊎ ((b ≡ false) × (y ≡ Some s))
chosen true x y s e = inl (refl, e)
chosen false x y s e = inr (refl, e)

found : {A B : Type 0} (f : A → Option B) (o : Option A) (s : B) → option_and_then f o ≡ Some s → (u : A) × (o ≡ Some u) × (f u ≡ Some s)
found f None s e = absurd (none-some s e)
found f (Some u) s e = (u, refl, e)

prepended : (a : List ℕ) (o : Option (List ℕ)) (s : List ℕ) → prepend a o ≡ Some s → (t : List ℕ) × (o ≡ Some t) × (a ++ t ≡ s)
prepended a None s e = absurd (none-some s e)
prepended a (Some t) s e = (t, refl, same_Some (a ++ t) s e)

pub plain_letter : (x : ℕ) → (x == 34) ≡ false → (x == 92) ≡ false → is_letter (Plain x) ≡ true
plain_letter x q b = rw (q, b) refl

digit_letter : (x : ℕ) → is_digit x 16 ≡ true → is_letter (Plain x) ≡ true
digit_letter x h = elim (cases_Bool (x == 34)) [
  | inl q ↦ absurd (true≢false (sym h ∙ ap (λ y. is_digit y 16) (eqb-true x 34 q)))
  | inr q ↦ elim (cases_Bool (x == 92)) [
    | inl b ↦ absurd (true≢false (sym h ∙ ap (λ y. is_digit y 16) (eqb-true x 92 b)))
    | inr b ↦ plain_letter x q b
  ]
]

record FourDigits (a b c d : ℕ) : Type 0 where
  first : is_letter (Plain a) ≡ true
  second : is_letter (Plain b) ≡ true
  third : is_letter (Plain c) ≡ true
  fourth : is_letter (Plain d) ≡ true

four_digits : (a b c d u : ℕ) → code_unit a b c d ≡ Some u → FourDigits a b c d
unfolding code_unit
four_digits a b c d u e = elim (chosen (is_digit a 16 && is_digit b 16 && is_digit c 16 && is_digit d 16) _ None u e) [
  | inl h ↦
      let p = and_parts _ _ h.0 in
      let q = and_parts _ _ p.0 in
      let r = and_parts _ _ q.0 in
      record { first = digit_letter a r.0; second = digit_letter b r.1; third = digit_letter c q.1; fourth = digit_letter d p.1 }
  | inr h ↦ absurd (none-some u h.1)
]

four_letters : (a b c d : ℕ) (letters : List Letter) → FourDigits a b c d → list_all is_letter letters ≡ true
    → list_all is_letter (Plain a ∷ Plain b ∷ Plain c ∷ Plain d ∷ letters) ≡ true
four_letters a b c d letters h fine = rw (h.first, h.second, h.third, h.fourth) fine

-- ---- each step of `content`

pub plain_read : (x : ℕ) (zs t s : List ℕ) → (x == 34) ≡ false → (x == 92) ≡ false → nat_lt x 32 ≡ false → content plain zs ≡ Some t → x ∷ t ≡ s → content plain (x ∷ zs) ≡ Some s
unfolding content
plain_read x zs t s q b low r is = rw (q, b, low, r) (ap Some is)

escape_read : (x c : ℕ) (zs t s : List ℕ) → (x == 117) ≡ false → short_escape x ≡ Some c → content plain zs ≡ Some t → c ∷ t ≡ s → content after_backslash (x ∷ zs) ≡ Some s
unfolding content
escape_read x c zs t s u e r is = rw (u, e, r) (ap Some is)

u_read : (x : ℕ) (zs s : List ℕ) → (x == 117) ≡ true → content after_u zs ≡ Some s → content after_backslash (x ∷ zs) ≡ Some s
unfolding content
u_read x zs s u r = rw u r

unit_read : (a b c d u : ℕ) (zs t s : List ℕ) → code_unit a b c d ≡ Some u → is_high_surrogate u ≡ false → is_low_surrogate u ≡ false → content plain zs ≡ Some t → encode_utf8 u ++ t ≡ s
    → content after_u (a ∷ b ∷ c ∷ d ∷ zs) ≡ Some s
unfolding content
unit_read a b c d u zs t s e high low r is = rw (e, high, low, r) (ap Some is)

high_read : (a b c d u : ℕ) (zs s : List ℕ) → code_unit a b c d ≡ Some u → is_high_surrogate u ≡ true → content (after_high u) zs ≡ Some s → content after_u (a ∷ b ∷ c ∷ d ∷ zs) ≡ Some s
unfolding content
high_read a b c d u zs s e high r = rw (e, high) r

pair_read : (h y a b c d u : ℕ) (zs t s : List ℕ) → (y == 117) ≡ true → code_unit a b c d ≡ Some u → is_low_surrogate u ≡ true → content plain zs ≡ Some t → encode_utf8 (surrogate_pair h u) ++ t ≡ s
    → content (after_high h) (92 ∷ y ∷ a ∷ b ∷ c ∷ d ∷ zs) ≡ Some s
unfolding content
pair_read h y a b c d u zs t s begins e low r is = rw (begins, e, low, r) (ap Some is)

-- what a text reads as is read of it up to its closing quote, whatever follows that
pub closed : (w : Within) (xs s : List ℕ) → content w xs ≡ Some s → Closed w xs s
unfolding content
closed plain [] s e = absurd (none-some s e)
closed plain (x ∷ xs) s e = elim (chosen (x == 34) _ _ s e) [
  | inl q ↦ record { escaped = 0; letters = []; rest = xs; whole = ap (λ y. y ∷ xs) (eqb-true x 34 q.0); fine = refl; read = λ ys. q.1 }
  | inr nq ↦ elim (chosen (x == 92) _ _ s nq.1) [
    | inl b ↦
        let r = closed after_backslash xs s b.1 in
        record {
          escaped = 0;
          letters = Escaped r.escaped ∷ r.letters;
          rest = r.rest;
          whole = (λ i. eqb-true x 92 b.0 i ∷ r.whole i);
          fine = r.fine;
          read = r.read;
        }
    | inr nb ↦ elim (chosen (nat_lt x 32) None _ s nb.1) [
      | inl low ↦ absurd (none-some s low.1)
      | inr high ↦
          let t = prepended (x ∷ []) (content plain xs) s high.1 in
          let r = closed plain xs t.0 t.1 in
          record {
            escaped = 0;
            letters = Plain x ∷ r.letters;
            rest = r.rest;
            whole = ap (λ ys. x ∷ ys) r.whole;
            fine = rw (plain_letter x nq.0 nb.0) r.fine;
            read = λ ys. plain_read x (letters_bytes r.letters ++ 34 ∷ ys) t.0 s nq.0 nb.0 high.0 (r.read ys) t.2;
          }
    ]
  ]
]
closed after_backslash [] s e = absurd (none-some s e)
closed after_backslash (x ∷ xs) s e = elim (chosen (x == 117) _ _ s e) [
  | inl u ↦
      let r = closed after_u xs s u.1 in
      record { escaped = x; letters = r.letters; rest = r.rest; whole = ap (λ ys. x ∷ ys) r.whole; fine = r.fine; read = λ ys. u_read x (letters_bytes r.letters ++ 34 ∷ ys) s u.0 (r.read ys) }
  | inr n ↦
      let c = found (λ c. prepend (c ∷ []) (content plain xs)) (short_escape x) s n.1 in
      let t = prepended (c.0 ∷ []) (content plain xs) s c.2 in
      let r = closed plain xs t.0 t.1 in
      record { escaped = x; letters = r.letters; rest = r.rest; whole = ap (λ ys. x ∷ ys) r.whole; fine = r.fine; read = λ ys. escape_read x c.0 (letters_bytes r.letters ++ 34 ∷ ys) t.0 s n.0 c.1 (r.read ys) t.2 }
]
closed after_u [] s e = absurd (none-some s e)
closed after_u (a ∷ []) s e = absurd (none-some s e)
closed after_u (a ∷ b ∷ []) s e = absurd (none-some s e)
closed after_u (a ∷ b ∷ c ∷ []) s e = absurd (none-some s e)
closed after_u (a ∷ b ∷ c ∷ d ∷ xs) s e =
    let u = found (λ u. cond (is_high_surrogate u) (content (after_high u) xs) (cond (is_low_surrogate u) None (prepend (encode_utf8 u) (content plain xs)))) (code_unit a b c d) s e in
    let digits = four_digits a b c d u.0 u.1 in
    elim (chosen (is_high_surrogate u.0) _ _ s u.2) [
      | inl high ↦
          let r = closed (after_high u.0) xs s high.1 in
          record {
            escaped = 0;
            letters = Plain a ∷ Plain b ∷ Plain c ∷ Plain d ∷ r.letters;
            rest = r.rest;
            whole = ap (λ ys. a ∷ b ∷ c ∷ d ∷ ys) r.whole;
            fine = four_letters a b c d r.letters digits r.fine;
            read = λ ys. high_read a b c d u.0 (letters_bytes r.letters ++ 34 ∷ ys) s u.1 high.0 (r.read ys);
          }
      | inr lone ↦ elim (chosen (is_low_surrogate u.0) None _ s lone.1) [
        | inl low ↦ absurd (none-some s low.1)
        | inr one ↦
            let t = prepended (encode_utf8 u.0) (content plain xs) s one.1 in
            let r = closed plain xs t.0 t.1 in
            record {
              escaped = 0;
              letters = Plain a ∷ Plain b ∷ Plain c ∷ Plain d ∷ r.letters;
              rest = r.rest;
              whole = ap (λ ys. a ∷ b ∷ c ∷ d ∷ ys) r.whole;
              fine = four_letters a b c d r.letters digits r.fine;
              read = λ ys. unit_read a b c d u.0 (letters_bytes r.letters ++ 34 ∷ ys) t.0 s u.1 lone.0 one.0 (r.read ys) t.2;
            }
      ]
    ]
closed (after_high h) [] s e = absurd (none-some s e)
closed (after_high h) (x ∷ []) s e = absurd (none-some s e)
closed (after_high h) (x ∷ y ∷ []) s e = absurd (none-some s e)
closed (after_high h) (x ∷ y ∷ a ∷ []) s e = absurd (none-some s e)
closed (after_high h) (x ∷ y ∷ a ∷ b ∷ []) s e = absurd (none-some s e)
closed (after_high h) (x ∷ y ∷ a ∷ b ∷ c ∷ []) s e = absurd (none-some s e)
closed (after_high h) (x ∷ y ∷ a ∷ b ∷ c ∷ d ∷ xs) s e = elim (chosen ((x == 92) && (y == 117)) _ None s e) [
  | inr never ↦ absurd (none-some s never.1)
  | inl begins ↦
      let both = and_parts (x == 92) (y == 117) begins.0 in
      let u = found (λ l. cond (is_low_surrogate l) (prepend (encode_utf8 (surrogate_pair h l)) (content plain xs)) None) (code_unit a b c d) s begins.1 in
      elim (chosen (is_low_surrogate u.0) _ None s u.2) [
        | inr never ↦ absurd (none-some s never.1)
        | inl low ↦
            let t = prepended (encode_utf8 (surrogate_pair h u.0)) (content plain xs) s low.1 in
            let r = closed plain xs t.0 t.1 in
            record {
              escaped = 0;
              letters = Escaped y ∷ Plain a ∷ Plain b ∷ Plain c ∷ Plain d ∷ r.letters;
              rest = r.rest;
              whole = (λ i. eqb-true x 92 both.0 i ∷ y ∷ a ∷ b ∷ c ∷ d ∷ r.whole i);
              fine = four_letters a b c d r.letters (four_digits a b c d u.0 u.1) r.fine;
              read = λ ys. pair_read h y a b c d u.0 (letters_bytes r.letters ++ 34 ∷ ys) t.0 s both.1 u.1 low.0 (r.read ys) t.2;
            }
      ]
]
