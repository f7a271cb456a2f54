-- The value that comes, by the token that it begins with.
use Rattle.std.proofs.Common.{◌≡◌, ◌≢◌, ℕ, ◌-◌, ◌<◌, List, ◌∷◌, length, Bool, true, false, Option, Some, None, option_map, refl, sym, ap, ◌∙◌}
use Rattle.std.specs.Prelude.{is_some}
use Rattle.json.specs.Token.{Token}
use Rattle.json.specs.Json as json
use Rattle.json.specs.Json.{items, members, value, value_with, parse_map}
use Rattle.json.proofs.Grammar.{left, value_is, value-begin_array, value-begin_object, skip_value-shorter}
use Rattle.serde_json.specs.Data.{Num, Data, null, boolean, number, string, array, object, Items, Members, no_members}
use Rattle.serde_json.specs.Find.{as_null, as_str, as_array, as_object}
use Rattle.serde_json.specs.Read.{of_json, of_items, of_members, converted, number_of}
use Rattle.adr_read.specs.Coming.{coming, coming_items, coming_members}

parts : {B : Type 0} (x : Option B) (ts r : List Token) (b : B) → option_map {U = B × List Token} (λ y. (y, ts)) x ≡ Some (b, r) → (ts ≡ r) × (x ≡ Some b)
parts None ts r b e = absurd (cc)
parts (Some y) ts r b e = let rest : Some ts ≡ Some r = ap left e in (cc, ap (option_map (λ p. p.0)) e)

pub converted_parts : {A B : Type 0} (f : A → Option B) (o : Option (A × List Token)) (b : B) (r : List Token) → converted f o ≡ Some (b, r) → (a : A) × (o ≡ Some (a, r)) × (f a ≡ Some b)
converted_parts f None b r e = absurd (cc)
converted_parts f (Some p) b r e = let both = parts (f p.0) p.1 r b e in (p.0, ap (λ ts. Some (p.0, ts)) both.0, both.1)

mapped : {A B : Type 0} (f : A → B) (x : Option A) (ts : List Token) → option_map {U = B × List Token} (λ b. (b, ts)) (option_map f x) ≡ parse_map f (option_map {U = A × List Token} (λ a. (a, ts)) x)
mapped f None ts = refl
mapped f (Some a) ts = refl

-- one conversion in place of another
pub converted-parsed : {A B C D : Type 0} (h : A → C) (k : B → D) (f : A → Option B) (g : C → Option D) (o : Option (A × List Token)) → ((a : A) → g (h a) ≡ option_map k (f a)) → converted g (parse_map h o) ≡ parse_map k (converted f o)
converted-parsed h k f g None same = refl
converted-parsed h k f g (Some p) same = ap (option_map (λ d. (d, p.1))) (same p.0) ∙ mapped k (f p.0) p.1

pub converted-array : (o : Option (json.Items × List Token)) → converted of_json (parse_map json.array o) ≡ parse_map array (converted of_items o)
converted-array o = converted-parsed json.array array of_items of_json o (λ js. refl)

pub converted-object : (o : Option (json.Members × List Token)) → converted of_json (parse_map json.object o) ≡ parse_map object (converted (λ ms. of_members ms no_members) o)
converted-object o = converted-parsed json.object object (λ ms. of_members ms no_members) of_json o (λ ms. refl)

-- a value takes at least one token
pub coming-shorter : (depth : ℕ) (ts r : List Token) (d : Data) → coming depth ts ≡ Some (d, r) → length r < length ts
coming-shorter depth ts r d e = skip_value-shorter depth ts r (ap left (converted_parts of_json (value depth ts) d r e).1)

pub coming-string : (depth : ℕ) (s : List ℕ) (ts : List Token) → coming depth (Token.string s ∷ ts) ≡ Some (string s, ts)
coming-string depth s ts = ap (converted of_json) (value_is depth (Token.string s ∷ ts))

pub coming-boolean : (depth : ℕ) (b : Bool) (ts : List Token) → coming depth (Token.boolean b ∷ ts) ≡ Some (boolean b, ts)
coming-boolean depth b ts = ap (converted of_json) (value_is depth (Token.boolean b ∷ ts))

pub coming-null : (depth : ℕ) (ts : List Token) → coming depth (Token.null ∷ ts) ≡ Some (null, ts)
coming-null depth ts = ap (converted of_json) (value_is depth (Token.null ∷ ts))

pub coming-begin_array : (depth : ℕ) (ts : List Token) → 0 < depth → coming depth (Token.begin_array ∷ ts) ≡ parse_map array (coming_items (depth - 1) ts)
coming-begin_array depth ts some = ap (converted of_json) (value-begin_array depth ts some) ∙ converted-array (items (value (depth - 1)) (length ts) ts)

pub coming-begin_object : (depth : ℕ) (ts : List Token) → 0 < depth → coming depth (Token.begin_object ∷ ts) ≡ parse_map object (coming_members (depth - 1) ts)
coming-begin_object depth ts some = ap (converted of_json) (value-begin_object depth ts some) ∙ converted-object (members (value (depth - 1)) (length ts) ts)

-- ---- a value begins with its own token

-- the value d may begin with the token
abbrev pub Begins : Token → Data → Type 0
Begins Token.begin_object d = (ms : Members) × (d ≡ object ms)
Begins Token.end_object d = ⊥
Begins Token.begin_array d = (ds : Items) × (d ≡ array ds)
Begins Token.end_array d = ⊥
Begins (Token.key s) d = ⊥
Begins (Token.string s) d = d ≡ string s
Begins (Token.number s) d = (n : Num) × (d ≡ number n)
Begins (Token.boolean b) d = d ≡ boolean b
Begins Token.null d = d ≡ null
Begins Token.bad d = ⊥

same_value : (x d : Data) (ts r : List Token) → ◌≡◌ {A = Option (Data × List Token)} (Some (x, ts)) (Some (d, r)) → d ≡ x
same_value x d ts r e = let is : Some x ≡ Some d = ap (option_map (λ p. p.0)) e in cc

made_by : {A : Type 0} (f : A → Data) (o : Option (A × List Token)) (r : List Token) (d : Data) → parse_map f o ≡ Some (d, r) → (a : A) × (d ≡ f a)
made_by f None r d e = absurd (cc)
made_by f (Some p) r d e = (p.0, same_value (f p.0) d p.1 r e)

begun : (a : json.Parse json.Items) (o : json.Parse json.Members) (t : Token) (ts r : List Token) (d : Data) → converted of_json (value_with a o (t ∷ ts)) ≡ Some (d, r) → Begins t d
begun a o Token.begin_object ts r d e = made_by object _ r d (sym (converted-object (o ts)) ∙ e)
begun a o Token.end_object ts r d e = absurd (cc)
begun a o Token.begin_array ts r d e = made_by array _ r d (sym (converted-array (a ts)) ∙ e)
begun a o Token.end_array ts r d e = absurd (cc)
begun a o (Token.key s) ts r d e = absurd (cc)
begun a o (Token.string s) ts r d e = same_value (string s) d ts r e
begun a o (Token.number s) ts r d e = made_by number _ r d (sym (mapped number (number_of s) ts) ∙ e)
begun a o (Token.boolean b) ts r d e = same_value (boolean b) d ts r e
begun a o Token.null ts r d e = same_value null d ts r e
begun a o Token.bad ts r d e = absurd (cc)

pub coming_begins : (depth : ℕ) (t : Token) (ts r : List Token) (d : Data) → coming depth (t ∷ ts) ≡ Some (d, r) → Begins t d
coming_begins depth t ts r d e = begun _ _ t ts r d (sym (ap (converted of_json) (value_is depth (t ∷ ts))) ∙ e)

-- the text that the token is, if it is one
abbrev pub token_str : Token → Option (List ℕ)
token_str Token.begin_object = None
token_str Token.end_object = None
token_str Token.begin_array = None
token_str Token.end_array = None
token_str (Token.key s) = None
token_str (Token.string s) = Some s
token_str (Token.number s) = None
token_str (Token.boolean b) = None
token_str Token.null = None
token_str Token.bad = None

abbrev pub token_is_null : Token → Bool
token_is_null Token.begin_object = false
token_is_null Token.end_object = false
token_is_null Token.begin_array = false
token_is_null Token.end_array = false
token_is_null (Token.key s) = false
token_is_null (Token.string s) = false
token_is_null (Token.number s) = false
token_is_null (Token.boolean b) = false
token_is_null Token.null = true
token_is_null Token.bad = false

-- what the value d is, as the token says
abbrev Alike : Token → Data → Type 0
Alike t d = (as_str d ≡ token_str t) × (t ≢ Token.begin_array → as_array d ≡ None) × (t ≢ Token.begin_object → as_object d ≡ None) × (is_some (as_null d) ≡ token_is_null t)

alike : (t : Token) (d : Data) → Begins t d → Alike t d
alike Token.begin_object d (ms, e) = rw e (refl, λ _. refl, λ never. absurd (never refl), refl)
alike Token.end_object d h = absurd h
alike Token.begin_array d (ds, e) = rw e (refl, λ never. absurd (never refl), λ _. refl, refl)
alike Token.end_array d h = absurd h
alike (Token.key s) d h = absurd h
alike (Token.string s) d e = rw e (refl, λ _. refl, λ _. refl, refl)
alike (Token.number s) d (n, e) = rw e (refl, λ _. refl, λ _. refl, refl)
alike (Token.boolean b) d e = rw e (refl, λ _. refl, λ _. refl, refl)
alike Token.null d e = rw e (refl, λ _. refl, λ _. refl, refl)
alike Token.bad d h = absurd h

module _ (depth : ℕ) (t : Token) (ts r : List Token) (d : Data) (e : coming depth (t ∷ ts) ≡ Some (d, r)) where
  begins_alike : Alike t d
  begins_alike = alike t d (coming_begins depth t ts r d e)

  pub coming-as_str : as_str d ≡ token_str t
  coming-as_str = begins_alike.0

  pub coming-as_array : t ≢ Token.begin_array → as_array d ≡ None
  coming-as_array = begins_alike.1

  pub coming-as_object : t ≢ Token.begin_object → as_object d ≡ None
  coming-as_object = begins_alike.2

  pub coming-as_null : is_some (as_null d) ≡ token_is_null t
  coming-as_null = begins_alike.3
