-- Good tokens come of lexemes that are read, and the numbers among them as texts are punctuated alike.
use Rattle.std.proofs.Common.{◌≡◌, ℕ, List, [], ◌∷◌, Bool, true, false, refl, sym, ap, ◌∙◌, subst, true≢false}
use Rattle.std.specs.Prelude.{⊤, if◌then◌else◌}
use Rattle.json.specs.Token.{Token, begin_object, end_object, begin_array, end_array, key, string, number, boolean, null, bad}
use Rattle.json.specs.Lex.{Lexeme, token, comma, colon, Place, fresh, after_value, after_comma, after_key, begins_colon, may_begin, may_close, if_allowed, place_token, punctuate}
use Rattle.adr_read.specs.Tokens.{fits, shielded_token, shielded_tokens}
use Rattle.adr_read.proofs.GoodTokens.{AreGood}

abbrev pub shielded_lexeme : Lexeme → Lexeme
shielded_lexeme (token t) = token (shielded_token t)
shielded_lexeme comma = comma
shielded_lexeme colon = colon

abbrev pub shielded_lexemes : List Lexeme → List Lexeme
shielded_lexemes [] = []
shielded_lexemes (l ∷ ls) = shielded_lexeme l ∷ shielded_lexemes ls

-- the token is good before these lexemes: a number fits, and no colon follows it
abbrev pub IsRead : Token → List Lexeme → Type 0
IsRead begin_object ls = ⊤
IsRead end_object ls = ⊤
IsRead begin_array ls = ⊤
IsRead end_array ls = ⊤
IsRead (key s) ls = ⊤
IsRead (string s) ls = ⊤
IsRead (number s) ls = (fits s ≡ true) × (begins_colon ls ≡ false)
IsRead (boolean b) ls = ⊤
IsRead null ls = ⊤
IsRead bad ls = ⊥

abbrev pub AreRead : List Lexeme → Type 0
AreRead [] = ⊤
AreRead (token t ∷ ls) = IsRead t ls × AreRead ls
AreRead (comma ∷ ls) = AreRead ls
AreRead (colon ∷ ls) = AreRead ls

same_colon : (ls : List Lexeme) → begins_colon (shielded_lexemes ls) ≡ begins_colon ls
same_colon [] = refl
same_colon (token t ∷ ls) = refl
same_colon (comma ∷ ls) = refl
same_colon (colon ∷ ls) = refl

placed : (p : Place) (t : Token) (ls : List Lexeme) → punctuate p (token t ∷ ls) ≡ place_token p t (begins_colon ls) (λ next. punctuate next ls)
unfolding punctuate
placed fresh t ls = refl
placed after_value t ls = refl
placed after_comma t ls = refl
placed after_key t ls = refl

no_colon : (ls : List Lexeme) → AreGood (shielded_tokens (punctuate after_value ls)) → begins_colon ls ≡ false
unfolding punctuate
no_colon [] h = refl
no_colon (token t ∷ ls) h = refl
no_colon (comma ∷ ls) h = refl
no_colon (colon ∷ ls) h = absurd (true≢false (sym h.0))

-- where a token is allowed, what follows it decides
allowed : {Q : Type 0} (b : Bool) (t u : Token) (k l : Place → List Token) (next : Place) → u ≡ shielded_token t → AreGood (shielded_tokens (if_allowed b t k next))
    → (AreGood (shielded_tokens (k next)) → Q × (l next ≡ shielded_tokens (k next))) → Q × (if_allowed b u l next ≡ shielded_tokens (if_allowed b t k next))
allowed true t u k l next is h f = let rest = f h.1 in (rest.0, (λ i. is i ∷ rest.1 i))
allowed false t u k l next is h f = absurd (true≢false (sym h.0))

-- a number that fits and that no colon follows is a text where a value may begin
number_at : {Q : Type 0} (p : Place) (s : List ℕ) (fit before : Bool) (rest : List Token) (l : Place → List Token) → may_begin p ≡ true
    → AreGood ((if fit then string (0 ∷ s) else bad) ∷ rest) → (AreGood rest → (before ≡ false) × Q × (l after_value ≡ rest))
    → (((fit ≡ true) × (before ≡ false)) × Q) × (place_token p (if fit then string (0 ∷ s) else bad) before l ≡ (if fit then string (0 ∷ s) else bad) ∷ rest)
number_at p s false before rest l begins h f = absurd (true≢false (sym h.0))
number_at p s true before rest l begins h f =
    let r = f h.1 in
    (((refl, r.0), r.1), rw (r.0, begins) (ap (λ ts. string (0 ∷ s) ∷ ts) r.2))

-- a text is a key where a colon follows it
text_at : {Q : Type 0} (b before : Bool) (s : List ℕ) (p : Place) (k l : Place → List Token) → AreGood (shielded_tokens (place_token p (string s) before k))
    → ((next : Place) → AreGood (shielded_tokens (k next)) → Q × (l next ≡ shielded_tokens (k next))) → (⊤ × Q) × (place_token p (string s) before l ≡ shielded_tokens (place_token p (string s) before k))
text_at b true s p k l h f = let r = allowed (may_begin p) (key s) (key s) k l after_key refl h (f after_key) in ((tt, r.0), r.1)
text_at b false s p k l h f = let r = allowed (may_begin p) (string s) (string s) k l after_value refl h (f after_value) in ((tt, r.0), r.1)

abbrev pub Alike : Place → List Lexeme → Type 0
Alike p ls = AreRead ls × (punctuate p (shielded_lexemes ls) ≡ shielded_tokens (punctuate p ls))

both : {Q : Type 0} {P : Type 0} → Q × P → (⊤ × Q) × P
both r = ((tt, r.0), r.1)

tokens_at : (p : Place) (t : Token) (ls : List Lexeme) → ((next : Place) → AreGood (shielded_tokens (punctuate next ls)) → Alike next ls)
    → AreGood (shielded_tokens (place_token p t (begins_colon ls) (λ next. punctuate next ls)))
    → (IsRead t ls × AreRead ls) × (place_token p (shielded_token t) (begins_colon ls) (λ next. punctuate next (shielded_lexemes ls)) ≡ shielded_tokens (place_token p t (begins_colon ls) (λ next. punctuate next ls)))
tokens_at p begin_object ls f h = both (allowed (may_begin p) begin_object begin_object _ (λ next. punctuate next (shielded_lexemes ls)) fresh refl h (f fresh))
tokens_at p end_object ls f h = both (allowed (may_close p) end_object end_object _ (λ next. punctuate next (shielded_lexemes ls)) after_value refl h (f after_value))
tokens_at p begin_array ls f h = both (allowed (may_begin p) begin_array begin_array _ (λ next. punctuate next (shielded_lexemes ls)) fresh refl h (f fresh))
tokens_at p end_array ls f h = both (allowed (may_close p) end_array end_array _ (λ next. punctuate next (shielded_lexemes ls)) after_value refl h (f after_value))
tokens_at p (key s) ls f h = absurd (true≢false (sym h.0))
tokens_at p (string s) ls f h = text_at true (begins_colon ls) s p (λ next. punctuate next ls) (λ next. punctuate next (shielded_lexemes ls)) h f
tokens_at fresh (number s) ls f h = number_at fresh s (fits s) (begins_colon ls) (shielded_tokens (punctuate after_value ls)) (λ next. punctuate next (shielded_lexemes ls)) refl h (λ good. let r = f after_value good in (no_colon ls good, r.0, r.1))
tokens_at after_comma (number s) ls f h = number_at after_comma s (fits s) (begins_colon ls) (shielded_tokens (punctuate after_value ls)) (λ next. punctuate next (shielded_lexemes ls)) refl h (λ good. let r = f after_value good in (no_colon ls good, r.0, r.1))
tokens_at after_value (number s) ls f h = absurd (true≢false (sym h.0))
tokens_at after_key (number s) ls f h = absurd (true≢false (sym h.0))
tokens_at p (boolean b) ls f h = both (allowed (may_begin p) (boolean b) (boolean b) _ (λ next. punctuate next (shielded_lexemes ls)) after_value refl h (f after_value))
tokens_at p null ls f h = both (allowed (may_begin p) null null _ (λ next. punctuate next (shielded_lexemes ls)) after_value refl h (f after_value))
tokens_at p bad ls f h = absurd (true≢false (sym h.0))

-- good tokens
pub punctuated_alike : (ls : List Lexeme) (p : Place) → AreGood (shielded_tokens (punctuate p ls)) → Alike p ls
unfolding punctuate
punctuated_alike [] fresh h = (tt, refl)
punctuated_alike [] after_value h = (tt, refl)
punctuated_alike [] after_comma h = absurd (true≢false (sym h.0))
punctuated_alike [] after_key h = absurd (true≢false (sym h.0))
punctuated_alike (token t ∷ ls) p h =
    let r = tokens_at p t ls (punctuated_alike ls) (subst (λ ts. AreGood (shielded_tokens ts)) (placed p t ls) h) in
    (r.0, placed p (shielded_token t) (shielded_lexemes ls) ∙ ap (λ b. place_token p (shielded_token t) b (λ next. punctuate next (shielded_lexemes ls))) (same_colon ls) ∙ r.1 ∙ ap shielded_tokens (sym (placed p t ls)))
punctuated_alike (comma ∷ ls) fresh h = absurd (true≢false (sym h.0))
punctuated_alike (comma ∷ ls) after_value h = punctuated_alike ls after_comma h
punctuated_alike (comma ∷ ls) after_comma h = absurd (true≢false (sym h.0))
punctuated_alike (comma ∷ ls) after_key h = absurd (true≢false (sym h.0))
punctuated_alike (colon ∷ ls) fresh h = absurd (true≢false (sym h.0))
punctuated_alike (colon ∷ ls) after_value h = absurd (true≢false (sym h.0))
punctuated_alike (colon ∷ ls) after_comma h = absurd (true≢false (sym h.0))
punctuated_alike (colon ∷ ls) after_key h = punctuated_alike ls fresh h
