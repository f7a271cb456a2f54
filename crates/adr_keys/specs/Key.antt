-- What is offered and asked for: the name of a resource, the name of a ven, or a value under another type.
use Rattle.std.specs.Prelude.{◌≡◌, ℕ, Bool, true, false, ◌&&◌, List, ◌++◌, refl}
use Rattle.std.proofs.Common.{ap, sym, ◌∙◌, eqb-true, eq-eqb}
use Rattle.std.proofs.lemmas.Bool.{false≢true, and_parts, and_from}
use Rattle.std.proofs.lemmas.Bool.Decides.{Decides-int_eq}
use Rattle.std.proofs.lemmas.Slice.Eq.{bytes_eq-Decides}
use Rattle.std.specs.Cmp.{IsEquivalence}
use Rattle.std.specs.Hash as fed
use Rattle.std.specs.Str.{bytes_eq}
use Rattle.adr_value.specs.Number.{Number as Decimal}
use Rattle.adr_value.specs.Same.{same_datum, same_decimal}
use Rattle.adr_value.specs.declared.datum.Datum.{Datum}
use Rattle.adr_value.specs.declared.datum.Datum.TheVariants.{Number, Text, Truth, Point}
use Rattle.adr_keys.specs.declared.key.Key.{Key}
use Rattle.adr_keys.specs.declared.key.Key.TheVariants.{Anyone, Resource, Ven, Value}

abbrev pub same_key : Key → Key → Bool
same_key Anyone Anyone = true
same_key (Resource a) (Resource b) = bytes_eq a b
same_key (Ven a) (Ven b) = bytes_eq a b
same_key (Value a x) (Value b y) = bytes_eq a b && same_datum x y
same_key _ _ = false

-- what of a value is hashed
abbrev pub datum_input : Datum → List (List ℕ)
datum_input (Number n) = fed.i128 n.coefficient
datum_input (Text t) = fed.str t
datum_input (Truth b) = fed.bool b
datum_input (Point x y) = fed.i128 x.coefficient ++ fed.i128 y.coefficient

abbrev pub key_input : Key → List (List ℕ)
key_input Anyone = fed.u8 2
key_input (Resource a) = fed.u8 0 ++ fed.str a
key_input (Ven a) = fed.u8 1 ++ fed.str a
key_input (Value a x) = fed.str a ++ datum_input x

-- ---- the laws: keys are the same just where they are equal

decimal_true : (a b : Decimal) → same_decimal a b ≡ true → a ≡ b
decimal_true a b h =
    let p = and_parts _ _ h in
    let c : a.coefficient ≡ b.coefficient = (Decides-int_eq a.coefficient b.coefficient).0 p.0 in
    let s : a.scale ≡ b.scale = eqb-true a.scale b.scale p.1 in
    λ i. record { coefficient = c i; scale = s i }

decimal_self : (a : Decimal) → same_decimal a a ≡ true
decimal_self a = and_from _ _ ((Decides-int_eq a.coefficient a.coefficient).1 refl) (eq-eqb a.scale a.scale refl)

datum_true : (a b : Datum) → same_datum a b ≡ true → a ≡ b
datum_true (Number a) (Number b) h = ap (λ n. Number n) (decimal_true a b h)
datum_true (Text a) (Text b) h = ap (λ t. Text t) ((bytes_eq-Decides a b).0 h)
datum_true (Truth true) (Truth true) h = refl
datum_true (Truth true) (Truth false) h = absurd (false≢true h)
datum_true (Truth false) (Truth true) h = absurd (false≢true h)
datum_true (Truth false) (Truth false) h = refl
datum_true (Point a b) (Point c d) h =
    let p = and_parts _ _ h in
    let x : a ≡ c = decimal_true a c p.0 in
    let y : b ≡ d = decimal_true b d p.1 in
    λ i. Point (x i) (y i)
datum_true (Number a) (Text b) h = absurd (false≢true h)
datum_true (Number a) (Truth b) h = absurd (false≢true h)
datum_true (Number a) (Point b c) h = absurd (false≢true h)
datum_true (Text a) (Number b) h = absurd (false≢true h)
datum_true (Text a) (Truth b) h = absurd (false≢true h)
datum_true (Text a) (Point b c) h = absurd (false≢true h)
datum_true (Truth true) (Number b) h = absurd (false≢true h)
datum_true (Truth true) (Text b) h = absurd (false≢true h)
datum_true (Truth true) (Point b c) h = absurd (false≢true h)
datum_true (Truth false) (Number b) h = absurd (false≢true h)
datum_true (Truth false) (Text b) h = absurd (false≢true h)
datum_true (Truth false) (Point b c) h = absurd (false≢true h)
datum_true (Point a b) (Number c) h = absurd (false≢true h)
datum_true (Point a b) (Text c) h = absurd (false≢true h)
datum_true (Point a b) (Truth c) h = absurd (false≢true h)

datum_self : (a : Datum) → same_datum a a ≡ true
datum_self (Number a) = decimal_self a
datum_self (Text a) = (bytes_eq-Decides a a).1 refl
datum_self (Truth true) = refl
datum_self (Truth false) = refl
datum_self (Point a b) = and_from _ _ (decimal_self a) (decimal_self b)

pub same_key_true : (a b : Key) → same_key a b ≡ true → a ≡ b
same_key_true Anyone Anyone h = refl
same_key_true Anyone (Resource b) h = absurd (false≢true h)
same_key_true Anyone (Ven b) h = absurd (false≢true h)
same_key_true Anyone (Value b y) h = absurd (false≢true h)
same_key_true (Resource a) Anyone h = absurd (false≢true h)
same_key_true (Ven a) Anyone h = absurd (false≢true h)
same_key_true (Value a x) Anyone h = absurd (false≢true h)
same_key_true (Resource a) (Resource b) h = ap (λ t. Resource t) ((bytes_eq-Decides a b).0 h)
same_key_true (Ven a) (Ven b) h = ap (λ t. Ven t) ((bytes_eq-Decides a b).0 h)
same_key_true (Value a x) (Value b y) h =
    let p = and_parts _ _ h in
    let k : a ≡ b = (bytes_eq-Decides a b).0 p.0 in
    let v : x ≡ y = datum_true x y p.1 in
    λ i. Value (k i) (v i)
same_key_true (Resource a) (Ven b) h = absurd (false≢true h)
same_key_true (Resource a) (Value b y) h = absurd (false≢true h)
same_key_true (Ven a) (Resource b) h = absurd (false≢true h)
same_key_true (Ven a) (Value b y) h = absurd (false≢true h)
same_key_true (Value a x) (Resource b) h = absurd (false≢true h)
same_key_true (Value a x) (Ven b) h = absurd (false≢true h)

pub same_key_self : (a : Key) → same_key a a ≡ true
same_key_self Anyone = refl
same_key_self (Resource a) = (bytes_eq-Decides a a).1 refl
same_key_self (Ven a) = (bytes_eq-Decides a a).1 refl
same_key_self (Value a x) = and_from _ _ ((bytes_eq-Decides a a).1 refl) (datum_self x)

pub same_key_flip : (a b : Key) → same_key a b ≡ same_key b a
same_key_flip a b = by (same_key a b) (same_key b a) refl refl
  where
    by : (p q : Bool) → same_key a b ≡ p → same_key b a ≡ q → p ≡ q
    by true true e f = refl
    by false false e f = refl
    by true false e f = sym (same_key_self b) ∙ ap (λ x. same_key b x) (sym (same_key_true a b e)) ∙ f
    by false true e f = sym e ∙ ap (λ x. same_key a x) (same_key_true b a f) ∙ same_key_self a

pub same_key_laws : IsEquivalence same_key
same_key_laws = record {
  refl = same_key_self;
  symm = same_key_flip;
  congr = λ x y z e. ap (λ w. same_key w z) (same_key_true x y e);
}

pub same_key_input : (a b : Key) → same_key a b ≡ true → key_input a ≡ key_input b
same_key_input a b e = ap key_input (same_key_true a b e)
