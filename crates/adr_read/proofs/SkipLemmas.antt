-- What is passed over, a turn at a time.
use Rattle.std.proofs.Common.{◌≡◌, ◌≢◌, ℕ, zero, suc, ◌-◌, ◌<◌, List, [], ◌∷◌, Option, Some, None, option_map, option_and_then, refl, sym, ap, ◌∙◌, append-nil}
use Rattle.std.specs.Prelude.{IsSome, Result, Ok, Err, IfErr, MatchResult}
use Rattle.std.specs.Result.{result_or}
use Rattle.json.specs.Token.{Token, number}
use Rattle.json.specs.Lex.{tokens}
use Rattle.json.specs.Json as json
use Rattle.json.specs.Json.{Parse, parse_map, after_end_array, read_key, items_step, members_step, items, members, value, if_last}
use Rattle.json.specs.Print.{IsNumber, print_from, ArePrintable}
use Rattle.json.proofs.Grammar.{value_is, items_more, members_more}
use Rattle.json.proofs.Printed.Tokens.{tokens-print}
use Rattle.serde_json.specs.Data as found
use Rattle.serde_json.specs.Data.{Data, Members, no_members, put}
use Rattle.serde_json.specs.Read.{number_of, of_json, of_items, of_members, converted, max_depth, read}
use Rattle.adr_refusal.specs.declared.refusal.Refusal.{Refusal}
use Rattle.adr_read.specs.Coming.{coming, Comes}
use Rattle.adr_read.proofs.ComingLemmas.{converted_parts, converted-parsed}

-- ---- nothing is converted where one part is not

all_none : {A B C : Type 0} (h : A → C) (g : C → Option B) (o : Option (A × List Token)) → ((a : A) → g (h a) ≡ None) → converted g (parse_map h o) ≡ None
all_none h g None none = refl
all_none h g (Some p) none = rw (none p.0) refl

pub not_converted : {B : Type 0} (r : List Token) (x : Option B) → option_map {U = B × List Token} (λ b. (b, r)) x ≡ None → x ≡ None
not_converted r None e = refl
not_converted r (Some b) e = absurd (cc)

no_turn : {A B : Type 0} (join : json.Json → A → A) (g : A → Option B) (more : Parse A) (o : Option (json.Json × List Token)) → ((j : json.Json) (a : A) → of_json j ≡ None → g (join j a) ≡ None) → converted of_json o ≡ None
    → converted g (option_and_then (λ q. parse_map (join q.0) (more q.1)) o) ≡ None
no_turn join g more None none e = refl
no_turn join g more (Some q) none e = all_none (join q.0) g (more q.1) (λ a. none q.0 a (not_converted q.1 (of_json q.0) e))

with_member : (k : List ℕ) (j : json.Json) (d : Data) (held : Members) → of_json j ≡ Some d → (o : Option (json.Members × List Token))
    → converted (λ ms. of_members ms held) (parse_map (json.member k j) o) ≡ converted (λ ms. of_members ms (put k d held)) o
with_member k j d held e None = refl
with_member k j d held e (Some q) = rw e refl

-- ---- the turns

module _ (p : Parse json.Json) where
  pub item_passed : (n : ℕ) (ts r : List Token) (d : Data) → 0 < n → after_end_array ts ≡ None → converted of_json (p ts) ≡ Some (d, r) → converted of_items (items p n ts) ≡ parse_map (found.item d) (converted of_items (items p (n - 1) r))
  item_passed n ts r d some going e =
      let j = converted_parts of_json (p ts) d r e in
      ap (converted of_items) (items_more p n ts r j.0 some going j.1) ∙ converted-parsed (json.item j.0) (found.item d) of_items of_items (items p (n - 1) r) (λ js. rw j.2 refl)

  pub item_refused : (n : ℕ) (ts : List Token) → after_end_array ts ≡ None → converted of_json (p ts) ≡ None → converted of_items (items p n ts) ≡ None
  unfolding items
  item_refused zero ts going e = refl
  item_refused (suc n) ts going e = ap (λ o. converted of_items (items_step p (items p n) ts o)) going ∙ no_turn json.item of_items (items p n) (p ts) (λ j js none. rw none refl) e

  module _ (held : Members) where
    pub member_passed : (n : ℕ) (k : List ℕ) (ts s r : List Token) (d : Data) → 0 < n → read_key ts ≡ Some (Some k, s) → converted of_json (p s) ≡ Some (d, r)
        → converted (λ ms. of_members ms held) (members p n ts) ≡ converted (λ ms. of_members ms (put k d held)) (members p (n - 1) r)
    member_passed n k ts s r d some key e =
        let j = converted_parts of_json (p s) d r e in
        ap (converted (λ ms. of_members ms held)) (members_more p n k ts s r j.0 some key j.1) ∙ with_member k j.0 d held j.2 (members p (n - 1) r)

    pub member_refused : (n : ℕ) (k : List ℕ) (ts s : List Token) → read_key ts ≡ Some (Some k, s) → converted of_json (p s) ≡ None → converted (λ ms. of_members ms held) (members p n ts) ≡ None
    unfolding members
    member_refused zero k ts s key e = refl
    member_refused (suc n) k ts s key e =
        ap (λ o. converted (λ ms. of_members ms held) (option_and_then (λ q. members_step p (members p n) q.0 q.1) o)) key
        ∙ no_turn (json.member k) (λ ms. of_members ms held) (members p n) (p s) (λ j ms none. rw none refl) e

-- ---- a number

-- the text of a number is that number alone
tokens-number : (s : List ℕ) → IsNumber s → tokens s ≡ number s ∷ []
unfolding print_from ArePrintable
tokens-number s h = ap tokens (sym (append-nil s)) ∙ tokens-print (number s ∷ []) (h, tt)

pub read-number : (s : List ℕ) → IsNumber s → read s ≡ option_map found.number (number_of s)
read-number s h = ap (λ ts. option_and_then of_json (option_and_then (λ p. if_last p.0 p.1) (value max_depth ts))) (tokens-number s h) ∙ ap (λ o. option_and_then of_json (option_and_then (λ p. if_last p.0 p.1) o)) (value_is max_depth (number s ∷ []))

-- a value comes, or none
pub number_there : (s : List ℕ) (d : Data) → IsNumber s → read s ≡ Some d → IsSome (number_of s)
number_there s d h e = there (number_of s) (sym (read-number s h) ∙ e)
  where
    there : (x : Option found.Num) → option_map found.number x ≡ Some d → IsSome x
    there None f = absurd (cc)
    there (Some n) f = refl

pub no_number : (s : List ℕ) → IsNumber s → read s ≡ None → number_of s ≡ None
no_number s h e = missing (number_of s) (sym (read-number s h) ∙ e)
  where
    missing : (x : Option found.Num) → option_map found.number x ≡ None → x ≡ None
    missing None f = refl
    missing (Some n) f = absurd (cc)

pub number_comes : (depth : ℕ) (s : List ℕ) (ts : List Token) → IsSome (number_of s) → Comes depth (number s ∷ ts) ts
number_comes depth s ts h = go (number_of s) h (ap (converted of_json) (value_is depth (number s ∷ ts)))
  where
    go : (x : Option found.Num) → IsSome x → coming depth (number s ∷ ts) ≡ option_map (λ d. (d, ts)) (option_map found.number x) → Comes depth (number s ∷ ts) ts
    go None h e = absurd (cc)
    go (Some n) h e = (found.number n, e)

pub number_missing : (depth : ℕ) (s : List ℕ) (ts : List Token) → number_of s ≡ None → coming depth (number s ∷ ts) ≡ None
number_missing depth s ts e = ap (converted of_json) (value_is depth (number s ∷ ts)) ∙ ap (λ x. option_map (λ d. (d, ts)) (option_map found.number x)) e

-- ---- what is answered

-- the exit of a `?`
pub refused : {T P : Type 0} {y : Refusal} (r : Result T Refusal) → (x : Refusal) × (r ≡ Err x) × (x ≡ y) → (y ≢ Refusal.NoMemory → (y ≡ Refusal.BadJson) × P) → IfErr r (λ f. f ≢ Refusal.NoMemory → (f ≡ Refusal.BadJson) × P)
refused r out h = rw (out.1, out.2) h

pub or_refused : {T E Q : Type 0} (P : T → Type 0) (r : Result T E) (f : Refusal) → ◌≡◌ {A = Result T Refusal} (Err f) (result_or r (Err Refusal.BadJson)) → MatchResult r P (λ _. Q) → (f ≡ Refusal.BadJson) × Q
or_refused P (Ok v) f e h = absurd (cc)
or_refused P (Err x) f e h = (cc, h)

pub if_err : {T P Q : Type 0} (r : Result T Refusal) → (P → Q) → IfErr r (λ f. f ≢ Refusal.NoMemory → (f ≡ Refusal.BadJson) × P) → IfErr r (λ f. f ≢ Refusal.NoMemory → (f ≡ Refusal.BadJson) × Q)
if_err (Ok v) f h = h
if_err (Err e) f h = λ ne. ((h ne).0, f (h ne).1)
