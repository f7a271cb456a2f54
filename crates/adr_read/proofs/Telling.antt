-- What a call tells, from what the calls within it tell.
use Rattle.std.proofs.Common.{◌≡◌, ◌≢◌, ℕ, List, [], ◌∷◌, ◌++◌, ◌||◌, ◌&&◌, Bool, true, false, not, Option, Some, None, Bor, refl, ap, ◌∙◌}
use Rattle.std.specs.Prelude.{Result, Ok, Err, OnOk, IfErr, if◌then◌else◌}
use Rattle.std.specs.Str.{bytes_eq}
use Rattle.std.proofs.lemmas.Slice.Eq.{bytes_eq-Decides}
use Rattle.json.specs.Token.{Token}
use Rattle.adr_read.specs.Tokens.{fits, token_of}
use Rattle.adr_read.specs.declared.tokens.Token as rust
use Rattle.adr_read.specs.declared.tokens.Token.TheVariants.{BeginObject, EndObject, BeginArray, EndArray, Key, String, Number, Float, Truth as TruthToken, Null, Bad}
use Rattle.serde_json.specs.Data.{Data, Members, object, put}
use Rattle.serde_json.specs.Find.{get_member, as_object}
use Rattle.serde_json.proofs.Views.{get_member-put}
use Rattle.adr_refusal.specs.Faults.{least}
use Rattle.adr_refusal.specs.declared.refusal.Refusal.{Refusal}
use Rattle.adr_refusal.specs.declared.refusal.Refusal.TheVariants.{BadJson, NoMemory}
use Rattle.adr_read.specs.Gathering.{among_both}
use Rattle.adr_read.specs.Coming.{Tells}
use Rattle.adr_read.proofs.ComingLemmas.{Begins, token_is_null, token_str}
use Rattle.adr_read.specs.Looking.{present, member_at}
use Rattle.adr_read.specs.Values.{datum_faults}
use Rattle.adr_read.specs.Members.{is_among, are_apart}

-- what holds of every value that comes holds of the one that was passed over
pub told_of_skip : (r : Result (Unit {0}) Refusal) (came : Option (Data × List Token)) (rest : List Token) (P : Data → Unit {0} → Type 0)
    → OnOk r ((d : Data) × (came ≡ Some (d, rest))) → IfErr r (λ f. f ≢ NoMemory → (f ≡ BadJson) × (came ≡ None))
    → ((d : Data) → came ≡ Some (d, rest) → P d tt) → Tells came rest P r
told_of_skip (Ok u) came rest P ok err holds = (ok.0, ok.1, holds ok.0 ok.1)
told_of_skip (Err f) came rest P ok err holds = err

pub told_as : {A : Type 0} (r : Result A Refusal) (came : Option (Data × List Token)) (rest : List Token) (P Q : Data → A → Type 0)
    → ((d : Data) (a : A) → P d a → Q d a) → Tells came rest P r → Tells came rest Q r
told_as (Ok a) came rest P Q more told = (told.0, told.1, more told.0 a told.2)
told_as (Err f) came rest P Q more told = told

pub on_ok : {T : Type 0} {P Q : Type 0} (r : Result T Refusal) → (P → Q) → OnOk r P → OnOk r Q
on_ok (Ok x) more h = more h
on_ok (Err f) more h = tt

pub on_ok_both : {T : Type 0} {P Q R : Type 0} (r : Result T Refusal) → (P → Q → R) → OnOk r P → OnOk r Q → OnOk r R
on_ok_both (Ok x) more h k = more h k
on_ok_both (Err f) more h k = tt

-- a fault of the text within a value is one of the value
pub fault_of : (f : Refusal) (came outer : Option (Data × List Token)) → (came ≡ None → outer ≡ None) → (f ≢ NoMemory → (f ≡ BadJson) × (came ≡ None)) → f ≢ NoMemory → (f ≡ BadJson) × (outer ≡ None)
fault_of f came outer none told is = ((told is).0, none (told is).1)

-- ---- names

pub not_equal : (b : Bool) → true ≡ not b → (b || false) ≡ false
not_equal true e = absurd cc
not_equal false e = refl

pub equal : (b : Bool) → false ≡ not b → b ≡ true
equal true e = refl
equal false e = absurd cc

-- the member that was put last is there
pub put_there : (n name : List ℕ) (d : Data) (ms : Members) → bytes_eq name n ≡ true → member_at n (object (put name d ms)) ≡ present (Some d)
put_there n name d ms e =
    let same : name ≡ n = (bytes_eq-Decides name n).0 e in
    ap present (ap (λ k. get_member n (put k d ms)) same ∙ get_member-put n d ms)

both_true : (a b : Bool) → (a && b) ≡ true → (a ≡ true) × (b ≡ true)
both_true true b e = (refl, e)
both_true false b e = absurd cc

not_true : (b : Bool) → not b ≡ true → b ≡ false
not_true true e = absurd cc
not_true false e = refl

pub apart_left : (xs ys : List (List ℕ)) → are_apart (xs ++ ys) ≡ true → are_apart xs ≡ true
apart_left [] ys e = refl
apart_left (x ∷ xs) ys e =
    let h = both_true (not (is_among x (xs ++ ys))) (are_apart (xs ++ ys)) e in
    rw ((among_both x xs ys (not_true _ h.0)).0, apart_left xs ys h.1) refl

pub apart_right : (xs ys : List (List ℕ)) → are_apart (xs ++ ys) ≡ true → are_apart ys ≡ true
apart_right [] ys e = e
apart_right (x ∷ xs) ys e = apart_right xs ys (both_true (not (is_among x (xs ++ ys))) (are_apart (xs ++ ys)) e).1

-- a name on the left is none on the right
only_left_at : (name x : List ℕ) (xs ys : List (List ℕ)) (b : Bool) → bytes_eq name x ≡ b → is_among x (xs ++ ys) ≡ false → (b || is_among name xs) ≡ true
    → (is_among name xs ≡ true → is_among name ys ≡ false) → is_among name ys ≡ false
only_left_at name x xs ys true is apart e later =
    let same : name ≡ x = (bytes_eq-Decides name x).0 is in
    rw same (among_both x xs ys apart).1
only_left_at name x xs ys false is apart e later = later e

pub only_left : (name : List ℕ) (xs ys : List (List ℕ)) → are_apart (xs ++ ys) ≡ true → is_among name xs ≡ true → is_among name ys ≡ false
only_left name [] ys e has = absurd cc
only_left name (x ∷ xs) ys e has =
    let h = both_true (not (is_among x (xs ++ ys))) (are_apart (xs ++ ys)) e in
    only_left_at name x xs ys _ refl (not_true _ h.0) has (only_left name xs ys h.1)

-- ---- tokens

number_opens_no_object : (b : Bool) (s : List ℕ) → (if b then Token.string (0 ∷ s) else Token.bad) ≢ Token.begin_object
number_opens_no_object true s is = absurd cc
number_opens_no_object false s is = absurd cc

number_opens_no_array : (b : Bool) (s : List ℕ) → (if b then Token.string (0 ∷ s) else Token.bad) ≢ Token.begin_array
number_opens_no_array true s is = absurd cc
number_opens_no_array false s is = absurd cc

number_is_not_null : (b : Bool) (s : List ℕ) → token_is_null (if b then Token.string (0 ∷ s) else Token.bad) ≡ false
number_is_not_null true s = refl
number_is_not_null false s = refl

pub not_begin_object : (t : rust.Token) → t ≢ BeginObject → token_of t ≢ Token.begin_object
not_begin_object BeginObject other is = other refl
not_begin_object EndObject other is = absurd cc
not_begin_object BeginArray other is = absurd cc
not_begin_object EndArray other is = absurd cc
not_begin_object (Key s) other is = absurd cc
not_begin_object (String s) other is = absurd cc
not_begin_object (Number s) other is = number_opens_no_object (fits s.now) s.now is
not_begin_object (Float s) other is = absurd cc
not_begin_object (TruthToken b) other is = absurd cc
not_begin_object Null other is = absurd cc
not_begin_object Bad other is = absurd cc

pub not_begin_array : (t : rust.Token) → t ≢ BeginArray → token_of t ≢ Token.begin_array
not_begin_array BeginObject other is = absurd cc
not_begin_array EndObject other is = absurd cc
not_begin_array BeginArray other is = other refl
not_begin_array EndArray other is = absurd cc
not_begin_array (Key s) other is = absurd cc
not_begin_array (String s) other is = absurd cc
not_begin_array (Number s) other is = number_opens_no_array (fits s.now) s.now is
not_begin_array (Float s) other is = absurd cc
not_begin_array (TruthToken b) other is = absurd cc
not_begin_array Null other is = absurd cc
not_begin_array Bad other is = absurd cc

pub not_null : (t : rust.Token) → t ≢ Null → token_is_null (token_of t) ≡ false
not_null BeginObject other = refl
not_null EndObject other = refl
not_null BeginArray other = refl
not_null EndArray other = refl
not_null (Key s) other = refl
not_null (String s) other = refl
not_null (Number s) other = number_is_not_null (fits s.now) s.now
not_null (Float s) other = refl
not_null (TruthToken b) other = refl
not_null Null other = absurd (other refl)
not_null Bad other = refl

pub not_string : (t : rust.Token) → ((s : Bor (List ℕ)) → t ≢ String s) → ((s : Bor (List ℕ)) → t ≢ Number s) → token_str (token_of t) ≡ None
not_string BeginObject other no_number = refl
not_string EndObject other no_number = refl
not_string BeginArray other no_number = refl
not_string EndArray other no_number = refl
not_string (Key s) other no_number = refl
not_string (String s) other no_number = absurd (other s refl)
not_string (Number s) other no_number = absurd (no_number s refl)
not_string (Float s) other no_number = refl
not_string (TruthToken b) other no_number = refl
not_string Null other no_number = refl
not_string Bad other no_number = refl

-- what is no text, no truth value and no object is no datum
pub no_datum : (t : rust.Token) (d : Data) → Begins (token_of t) d → ((s : Bor (List ℕ)) → t ≢ String s) → ((b : Bool) → t ≢ TruthToken b) → ((s : Bor (List ℕ)) → t ≢ Number s) → as_object d ≡ None → least (datum_faults d) ≡ 11
no_datum BeginObject d begins no_text no_truth no_number none = let some = ap as_object begins.1 in absurd cc
no_datum EndObject d begins no_text no_truth no_number none = absurd begins
no_datum BeginArray d begins no_text no_truth no_number none = rw begins.1 refl
no_datum EndArray d begins no_text no_truth no_number none = absurd begins
no_datum (Key s) d begins no_text no_truth no_number none = absurd begins
no_datum (String s) d begins no_text no_truth no_number none = absurd (no_text s refl)
no_datum (Number s) d begins no_text no_truth no_number none = absurd (no_number s refl)
no_datum (Float s) d begins no_text no_truth no_number none = rw begins.1 refl
no_datum (TruthToken b) d begins no_text no_truth no_number none = absurd (no_truth b refl)
no_datum Null d begins no_text no_truth no_number none = rw begins refl
no_datum Bad d begins no_text no_truth no_number none = absurd begins
