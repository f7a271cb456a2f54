-- The text of a decimal spells it.
use Rattle.std.proofs.Common.{◌≡◌, ◌∙◌, ℕ, zero, suc, ◌+◌, ◌-◌, ◌*◌, ◌/◌, ◌%◌, ◌^◌, ◌<◌, ◌≤◌, ◌==◌, ◌&&◌, Bool, true, false, List, [], ◌∷◌, ◌++◌, length, get_or, refl, sym, ap, arith, Some, inl, inr, ℤ, pos, append-nil, append_assoc, length-append, nat_lt}
use Rattle.std.specs.Prelude.{codes, unsigned_abs, int_lt, negsuc, replicate, slice_index}
use Rattle.std.specs.Char.{is_ascii_digit}
use Rattle.std.specs.Fmt.{decimal, sign_text}
use Rattle.std.specs.List.{list_all}
use Rattle.std.proofs.Math.Dec.{leb-suc-zero}
use Rattle.std.proofs.Math.ListN.{get_or-append}
use Rattle.std.proofs.Math.Nat.{div-le_self, mod-lt}
use Rattle.std.proofs.Math.Seq.{take-append_seam, drop-append_seam}
use Rattle.std.proofs.lemmas.Bool.{cases_Bool}
use Rattle.std.proofs.lemmas.Bool.Decides.{nat_tests, eqb_tells}
use Rattle.std.proofs.lemmas.Fmt.{decimal_by_steps_wide, length-decimal-le_wide}
use Rattle.std.proofs.lemmas.List.Folds.{list_all-append}
use Rattle.std.proofs.lemmas.Nat.{div-add-mod'}
use Rattle.std.proofs.lemmas.Option.{same_Some}
use Rattle.adr_value.specs.Body.{begins}
use Rattle.adr_value.specs.Number.{Number}
use Rattle.adr_value.specs.Spelling.{Spelling, spelling, digits, minus, whole, fraction}
use Rattle.adr_value.specs.Text.{fraction_text, number_text, places_text, HasSameValue, TextsReadBack, ValuesHaveOneForm}
use Rattle.adr_value.specs.Value.{value_after, digits_value, up, down, signed, IsCanonical, Spells}
use Rattle.adr_value.proofs.PowerLemmas.{pow-positive}
use Rattle.adr_value.proofs.PrefixLemmas.{both_true, prefix_len-front}
use Rattle.adr_value.proofs.ReadLemmas.{spells-number}
use Rattle.adr_value.proofs.ValueLemmas.{value_after-append, times-ten}

digit-is_ascii : (d : ℕ) → d < 10 → is_ascii_digit (48 + d) ≡ true
digit-is_ascii d h = grind (arith, nat_tests)

-- digits that write a number, with no zero before another digit
record IsNumeral (n : ℕ) (ds : List ℕ) : Type 0 where
  some : 0 < length ds
  all : list_all is_ascii_digit ds ≡ true
  value : digits_value ds ≡ n
  small : n < 10 → length ds ≡ 1
  lead : 0 < n → 48 < get_or ds 0 0

numeral-one : (n : ℕ) → n < 10 → IsNumeral n ((48 + n) ∷ [])
numeral-one n h = record {
  some = omega arith;
  all = rw (digit-is_ascii n h) refl;
  value = omega arith;
  small = λ _. refl;
  lead = λ some. omega arith;
}

numeral-more : (n : ℕ) (ds : List ℕ) → 10 ≤ n → IsNumeral (n / 10) ds → IsNumeral n (ds ++ ((48 + n % 10) ∷ []))
numeral-more n ds h front =
    let digit : n % 10 < 10 = omega arith in
    record {
      some = omega (arith, length-append ds ((48 + n % 10) ∷ []));
      all = list_all-append is_ascii_digit ds ((48 + n % 10) ∷ []) ∙ rw (front.all, digit-is_ascii (n % 10) digit) refl;
      value = value_after-append 0 ds ((48 + n % 10) ∷ []) ∙ omega (arith, front.value);
      small = λ less. absurd (omega arith);
      lead = λ _. omega (arith, get_or-append ds ((48 + n % 10) ∷ []) 0 0 front.some, front.lead (omega arith));
    }

decimal-numeral : (n : ℕ) → n < 10 ^ 64 → IsNumeral n (decimal n)
decimal-numeral n h = decimal_by_steps_wide (λ m ds. IsNumeral m ds) numeral-one numeral-more n h

-- ---- digits after the point

value_after-zeros : (k : ℕ) (ds : List ℕ) → digits_value (replicate k 48 ++ ds) ≡ digits_value ds
value_after-zeros zero ds = refl
value_after-zeros (suc k) ds = value_after-zeros k ds

all-zeros : (k : ℕ) (ds : List ℕ) → list_all is_ascii_digit ds ≡ true → list_all is_ascii_digit (replicate k 48 ++ ds) ≡ true
all-zeros zero ds h = h
all-zeros (suc k) ds h = all-zeros k ds h

length-zeros : (k : ℕ) (ds : List ℕ) → length (replicate k 48 ++ ds) ≡ k + length ds
length-zeros zero ds = omega arith
length-zeros (suc k) ds = omega (arith, length-zeros k ds)

-- a number in exactly so many digits
record IsPlaces (places n : ℕ) (ds : List ℕ) : Type 0 where
  all : list_all is_ascii_digit ds ≡ true
  value : digits_value ds ≡ n
  count : length ds ≡ places

places-are : (places n : ℕ) → 0 < places → n < 10 ^ places → n < 10 ^ 64 → IsPlaces places n (places_text places n)
places-are places n some fits small =
    let d = decimal-numeral n small in
    let size = length-decimal-le_wide places n some fits small in
    record {
      all = all-zeros (places - length (decimal n)) (decimal n) d.all;
      value = value_after-zeros (places - length (decimal n)) (decimal n) ∙ d.value;
      count = omega (arith, length-zeros (places - length (decimal n)) (decimal n), size);
    }

-- ---- the parts of the text

digits-front : (ds rest : List ℕ) → 0 < length ds → list_all is_ascii_digit ds ≡ true → begins is_ascii_digit rest ≡ false
    → digits (ds ++ rest) ≡ Some (ds, rest)
digits-front ds rest some all stop =
    let none : (length ds == 0) ≡ false = grind (arith, nat_tests) in
    rw (prefix_len-front is_ascii_digit ds rest all stop, none, take-append_seam ds rest, drop-append_seam ds rest) refl

no_lead : (n : ℕ) (ds rest : List ℕ) → IsNumeral n ds → (nat_lt 1 (length ds) && (slice_index (ds ++ rest) 0 == 48)) ≡ false
no_lead n ds rest h = elim (eqb_tells n 0) [
  | inl nil ↦
      let one = h.small (omega (arith, nil.1)) in
      let t : nat_lt 1 (length ds) ≡ false = grind (arith, nat_tests) in
      rw t refl
  | inr more ↦
      let first = h.lead (omega (arith, more.1)) in
      let same = get_or-append ds rest 0 0 h.some in
      let t : (slice_index (ds ++ rest) 0 == 48) ≡ false = grind (arith, nat_tests) in
      elim (cases_Bool (nat_lt 1 (length ds))) [ inl long ↦ rw (long, t) refl | inr short ↦ rw short refl ]
]

whole-front : (n : ℕ) (ds rest : List ℕ) → IsNumeral n ds → begins is_ascii_digit rest ≡ false → whole (ds ++ rest) ≡ Some (ds, rest)
whole-front n ds rest h stop =
    let none : (length ds == 0) ≡ false = grind (arith, nat_tests, h.some) in
    rw (prefix_len-front is_ascii_digit ds rest h.all stop, none, no_lead n ds rest h, take-append_seam ds rest, drop-append_seam ds rest) refl

-- the places of a number below 10 ^ scale, and how they stand in the text
record IsFraction (scale n : ℕ) (text : List ℕ) : Type 0 where
  places : List ℕ
  read : fraction text ≡ Some (places, [])
  stop : begins is_ascii_digit text ≡ false
  value : digits_value places ≡ n
  count : length places ≡ scale

point : (scale n : ℕ) (ds : List ℕ) → 0 < scale → IsPlaces scale n ds → IsFraction scale n (codes "." ++ ds)
point scale n ds some h = record {
  places = ds;
  read = ap digits (sym (append-nil ds)) ∙ digits-front ds [] (omega (arith, h.count)) h.all refl;
  stop = refl;
  value = h.value;
  count = h.count;
}

no_point : (scale size : ℕ) → scale ≡ 0 → IsFraction scale (size % 10 ^ scale) []
no_point scale size e = rw e (record { places = []; read = refl; stop = refl; value = omega arith; count = refl })

fraction-is : (scale size : ℕ) → size < 10 ^ 36 → IsFraction scale (size % 10 ^ scale) (fraction_text scale size)
fraction-is scale size small = elim (eqb_tells scale 0) [
  | inl nil ↦ rw nil.0 (no_point scale size nil.1)
  | inr more ↦
      let some : 0 < scale = omega (arith, more.1) in
      let fits = mod-lt size {m = 10 ^ scale} (pow-positive scale) in
      let less : size % 10 ^ scale ≤ size = omega (arith, div-add-mod' size (10 ^ scale)) in
      rw more.0 (point scale (size % 10 ^ scale) _ some (places-are scale (size % 10 ^ scale) some fits (omega arith)))
]

minus-sign : (negative : Bool) (text : List ℕ) → begins is_ascii_digit text ≡ true → minus (sign_text negative ++ text) ≡ (negative, text)
minus-sign true text h = refl
minus-sign false [] h = refl
minus-sign false (c ∷ text) h = elim (eqb_tells c 45) [
  | inl dash ↦ absurd (let n : is_ascii_digit 45 ≡ true = sym (ap is_ascii_digit dash.1) ∙ h in cc)
  | inr other ↦ rw other.0 refl
]

begins-front : (ds rest : List ℕ) → 0 < length ds → list_all is_ascii_digit ds ≡ true → begins is_ascii_digit (ds ++ rest) ≡ true
begins-front [] rest some h = absurd (omega arith)
begins-front (c ∷ ds) rest some h = (both_true (is_ascii_digit c) (list_all is_ascii_digit ds) h).0

abbrev printed : Bool → List ℕ → List ℕ → Spelling
printed negative ds places = record { negative = negative; whole = ds; fraction = places; below = false; exponent = [] }

spelling-printed : (negative : Bool) (text ds places rest : List ℕ) (full_text : List ℕ) → minus full_text ≡ (negative, text)
    → whole text ≡ Some (ds, rest) → fraction rest ≡ Some (places, []) → spelling full_text ≡ Some (printed negative ds places)
unfolding spelling
spelling-printed negative text ds places rest full_text m w f = rw (m, w, f) refl

-- ---- its value

value_after-shift : (n : ℕ) (ds : List ℕ) → value_after n ds ≡ n * 10 ^ length ds + digits_value ds
value_after-shift n [] = omega arith
value_after-shift n (c ∷ ds) =
    let more = value_after-shift (n * 10 + (c - 48)) ds in
    let alone = value_after-shift (0 * 10 + (c - 48)) ds in
    let ten = times-ten n (length ds) in
    omega arith

sign-back : (c : ℤ) → c ≡ signed (int_lt c (pos 0)) (unsigned_abs c)
sign-back (pos n) =
    let none : int_lt (pos n) (pos 0) ≡ false = leb-suc-zero n in
    rw none refl
sign-back (negsuc n) = refl

value-printed : (size scale : ℕ) (ds places : List ℕ) → digits_value ds ≡ size / 10 ^ scale → digits_value places ≡ size % 10 ^ scale
    → length places ≡ scale → digits_value (ds ++ places) ≡ size
value-printed size scale ds places w f count =
    value_after-append 0 ds places ∙ value_after-shift (digits_value ds) places
    ∙ rw (w, f, count) (div-add-mod' size (10 ^ scale))

-- the parts of a decimal's text, and what they come to
record IsPrinted (n : Number) : Type 0 where
  parts : Spelling
  spelled : spelling (number_text n) ≡ Some parts
  sign : parts.negative ≡ int_lt n.coefficient (pos 0)
  power : up parts ≡ 0
  places : down parts ≡ n.scale
  size : digits_value (parts.whole ++ parts.fraction) ≡ unsigned_abs n.coefficient

text-printed : (n : Number) → IsCanonical n → IsPrinted n
text-printed n canonical =
    let size = unsigned_abs n.coefficient in
    let negative = int_lt n.coefficient (pos 0) in
    let below = div-le_self size (10 ^ n.scale) in
    let small = canonical.size in
    let w = decimal-numeral (size / 10 ^ n.scale) (omega arith) in
    let f = fraction-is n.scale size small in
    let ds = decimal (size / 10 ^ n.scale) in
    let rest = fraction_text n.scale size in
    record {
      parts = printed negative ds f.places;
      spelled = spelling-printed negative (ds ++ rest) ds f.places rest (number_text n)
          (ap minus (append_assoc (sign_text negative) ds rest) ∙ minus-sign negative (ds ++ rest) (begins-front ds rest w.some w.all))
          (whole-front (size / 10 ^ n.scale) ds rest w f.stop) f.read;
      sign = refl;
      power = refl;
      places = omega (arith, f.count);
      size = value-printed size n.scale ds f.places w.value f.value f.count;
    }

-- the text of a decimal spells each canonical decimal of its value
text-spells : (n m : Number) → IsCanonical n → IsCanonical m → HasSameValue n m → Spells (number_text n) m
text-spells n m canonical other same =
    let t = text-printed n canonical in
    record {
      parts = t.parts;
      spelled = t.spelled;
      value = record {
        sign = sign-back m.coefficient ∙ ap (λ b. signed b (unsigned_abs m.coefficient)) (sym same.sign ∙ sym t.sign);
        value = ap (λ k. unsigned_abs m.coefficient * 10 ^ k) t.places ∙ sym same.value
            ∙ ap (λ v. v * 10 ^ m.scale) (sym t.size)
            ∙ ap (λ k. digits_value (t.parts.whole ++ t.parts.fraction) * 10 ^ k) (let e : m.scale ≡ up t.parts + m.scale = omega (arith, t.power) in e);
      };
      canonical = other;
    }

pub texts_read_back : TextsReadBack
texts_read_back n canonical = spells-number (number_text n) n (text-spells n n canonical canonical (record { sign = refl; value = refl }))

pub values_have_one_form : ValuesHaveOneForm
values_have_one_form n m canonical other same =
    same_Some n m (sym (texts_read_back n canonical) ∙ spells-number (number_text n) m (text-spells n m canonical other same))
