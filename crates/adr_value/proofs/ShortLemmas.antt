-- Numbers of few digits, which are read in one word.
use Rattle.std.proofs.Common.{true, false, take, nat_lt, cond, ◌&&◌, ◌==◌, inl, inr, true≢false, ◌≡◌, ◌∙◌, ℕ, zero, suc, ◌+◌, ◌-◌, ◌*◌, ◌/◌, ◌%◌, ◌^◌, ◌<◌, ◌≤◌, Bool, List, [], ◌∷◌, refl, sym, subst, ap, arith, length, drop, drop-cons, add-one, get_or, Some, unsigned_abs, if◌then◌else◌}
use Rattle.std.proofs.Math.Nat.{mul-le-mul_right, pow-le-pow_right}
use Rattle.std.proofs.lemmas.Nat.{pow-add}
use Rattle.adr_value.specs.Digits.{IsDigits}
use Rattle.adr_value.specs.Number.{Number}
use Rattle.std.specs.Char.{is_ascii_digit}
use Rattle.std.specs.List.{prefix_len}
use Rattle.std.specs.Prelude.{slice_index}
use Rattle.std.proofs.lemmas.Bool.{cases_Bool, eqb-true}
use Rattle.adr_value.specs.Spelling.{Spelling, spelling, minus, whole, whole_alone, ◌>>=◌}
use Rattle.adr_value.specs.Value.{value_after, signed, IsCanonical, push_all, nothing, number_of, number_of_spelling}
use Rattle.adr_value.proofs.PowerLemmas.{le-mul-pow}
use Rattle.adr_value.proofs.SpellingLemmas.{take-prefix_len-digits}
use Rattle.adr_value.proofs.ValueLemmas.{total, total-push_all, least-push_all, power-sum, times-ten, settle-complete, IsSettled, value_after-below, no_power, nothing_in}

-- one digit more still fits, and leaves room for the rest
pub next_room : (n d len i : ℕ) → d < 10 → i < len → (n + 1) * 10 ^ (len - i) ≤ 10 ^ 18
    → (n * 10 + d + 1 ≤ 10 ^ 18) × ((n * 10 + d + 1) * 10 ^ (len - (i + 1)) ≤ 10 ^ 18)
next_room n d len i small below room =
    let k = len - (i + 1) in
    let next : len - i ≡ suc k = omega arith in
    let all : (n + 1) * 10 ^ suc k ≤ 10 ^ 18 = rw (← next) room in
    let ten = times-ten (n + 1) k in
    let swapped : ((n + 1) * 10) * 10 ^ k ≡ (n + 1) * 10 ^ k * 10 = omega arith in
    let more : (n * 10 + d + 1) * 10 ^ k ≤ ((n + 1) * 10) * 10 ^ k = mul-le-mul_right (10 ^ k) (omega arith) in
    let least = le-mul-pow (n * 10 + d + 1) k in
    (omega arith, omega arith)

pub next_digit : (n : ℕ) (ds : List ℕ) (i : ℕ) → i < length ds
    → value_after n (drop i ds) ≡ value_after (n * 10 + (get_or ds i 0 - 48)) (drop (i + 1) ds)
next_digit n ds i h = ap (value_after n) (drop-cons ds i 0 h) ∙ rw add-one refl

-- a zero at the end and a place less
pub lower : (n all places scale : ℕ) → n % 10 ≡ 0 → 0 < scale → n * 10 ^ places ≡ all * 10 ^ scale
    → n / 10 * 10 ^ places ≡ all * 10 ^ (scale - 1)
lower n all places zero zeros some e = absurd (omega arith)
lower n all places (suc scale) zeros some e =
    let ten = times-ten all scale in
    let tenth : n ≡ n / 10 * 10 = omega (arith, zeros) in
    let swapped : n / 10 * 10 * 10 ^ places ≡ n / 10 * 10 ^ places * 10 = omega arith in
    let whole : n * 10 ^ places ≡ n / 10 * 10 * 10 ^ places = ap (λ k. k * 10 ^ places) tenth in
    let last : suc scale - 1 ≡ scale = omega arith in
    rw last (omega arith)

pub few_whole : (digits : ℕ) → digits ≤ 18 → 1 * 10 ^ digits ≤ 10 ^ 18
few_whole digits few =
    let most : 10 ^ digits ≤ 10 ^ 18 = pow-le-pow_right {n = 10} (omega arith) {i = digits} {j = 18} few in
    omega arith

pub few_more : (whole : List ℕ) (more : ℕ) → IsDigits whole → length whole + more ≤ 18
    → (value_after 0 whole + 1) * 10 ^ more ≤ 10 ^ 18
few_more whole more digits few =
    let below = value_after-below 0 whole digits in
    let product : (value_after 0 whole + 1) * 10 ^ more ≤ 10 ^ length whole * 10 ^ more = mul-le-mul_right (10 ^ more) (omega arith) in
    let most : 10 ^ (length whole + more) ≤ 10 ^ 18 = pow-le-pow_right {n = 10} (omega arith) {i = length whole + more} {j = 18} few in
    let sum = pow-add 10 (length whole) more in
    omega arith

-- the canonical number of these digits is that of their spelling
few_spelled : (negative below : Bool) (whole fraction : List ℕ) (n : Number) → IsDigits whole → IsDigits fraction
    → n.coefficient ≡ signed negative (unsigned_abs n.coefficient)
    → unsigned_abs n.coefficient * 10 ^ length fraction ≡ value_after (value_after 0 whole) fraction * 10 ^ n.scale
    → IsCanonical n
    → (let p : Spelling = record { negative = negative; whole = whole; fraction = fraction; below = below; exponent = [] } in
    number_of_spelling p ≡ Some n)
unfolding number_of_spelling
few_spelled negative below whole fraction n w f sign value canonical =
    let s = push_all (push_all nothing whole) fraction in
    let is : total s ≡ value_after (value_after 0 whole) fraction = total-push_all (push_all nothing whole) fraction ∙ ap (λ k. value_after k fraction) (total-push_all nothing whole) in
    let zero_up : s.zeros + (if below then 0 else 0) ≡ s.zeros = ap (λ k. s.zeros + k) (no_power below) ∙ omega arith in
    let same_down : length fraction + (if below then 0 else 0) ≡ length fraction = ap (λ k. length fraction + k) (no_power below) ∙ omega arith in
    let least = least-push_all (push_all nothing whole) fraction f (least-push_all nothing whole w (λ h. omega (arith, h))) in
    let settled : IsSettled negative s.mantissa s.zeros (length fraction) n = record {
      sign = sign;
      value = value ∙ ap (λ k. k * 10 ^ n.scale) (sym is) ∙ power-sum s.mantissa s.zeros n.scale (s.zeros + n.scale) refl;
      canonical = canonical;
    } in
    rw (zero_up, same_down) (settle-complete negative s.mantissa s.zeros (length fraction) n least settled)

pub few_are : (p : Spelling) (n : Number) → IsDigits p.whole → IsDigits p.fraction → length p.exponent ≡ 0
    → n.coefficient ≡ signed p.negative (unsigned_abs n.coefficient)
    → unsigned_abs n.coefficient * 10 ^ length p.fraction ≡ value_after (value_after 0 p.whole) p.fraction * 10 ^ n.scale
    → IsCanonical n → number_of_spelling p ≡ Some n
few_are p n w f none sign value canonical =
    let e : p.exponent ≡ [] = nothing_in p.exponent none in
    ap (λ (xs : List ℕ). let q : Spelling = record { negative = p.negative; whole = p.whole; fraction = p.fraction; below = p.below; exponent = xs } in number_of_spelling q) e
    ∙ few_spelled p.negative p.below p.whole p.fraction n w f sign value canonical

-- ---- digits alone

take-all : (xs : List ℕ) → take (length xs) xs ≡ xs
take-all [] = refl
take-all (x ∷ xs) = ap (λ ys. x ∷ ys) (take-all xs)

drop-all : (xs : List ℕ) → drop (length xs) xs ≡ []
drop-all [] = refl
drop-all (x ∷ xs) = drop-all xs

digit_not_minus : (c : ℕ) → is_ascii_digit c ≡ true → (c == 45) ≡ false
digit_not_minus c digit = elim (cases_Bool (c == 45)) [
  | inl same ↦ absurd (true≢false (sym digit ∙ ap is_ascii_digit (eqb-true c 45 same)))
  | inr apart ↦ apart
]

first_counts : (b : Bool) (n m : ℕ) → cond b (1 + n) 0 ≡ suc m → b ≡ true
first_counts true n m e = refl
first_counts false n m e = absurd (omega arith)

no_minus : (text : List ℕ) → prefix_len is_ascii_digit text ≡ length text → (length text == 0) ≡ false → minus text ≡ (false, text)
no_minus [] all some = absurd (true≢false some)
no_minus (c ∷ rest) all some = rw (digit_not_minus c (first_counts (is_ascii_digit c) (prefix_len is_ascii_digit rest) (length rest) all)) refl

whole_read : (text : List ℕ) → prefix_len is_ascii_digit text ≡ length text → (length text == 0) ≡ false
    → (nat_lt 1 (length text) && (slice_index text 0 == 48)) ≡ false → whole text ≡ Some (text, [])
whole_read text all some lead = rw (all, some, lead, take-all text, drop-all text) refl

pub whole_spelled : (text : List ℕ) → prefix_len is_ascii_digit text ≡ length text → (length text == 0) ≡ false
    → (nat_lt 1 (length text) && (slice_index text 0 == 48)) ≡ false → spelling text ≡ Some (whole_alone text)
unfolding spelling
whole_spelled text all some lead = rw (no_minus text all some, whole_read text all some lead) refl

pub all_digits : (text : List ℕ) → prefix_len is_ascii_digit text ≡ length text → IsDigits text
all_digits text all = subst (λ ds. IsDigits ds) (take-all text) (take-prefix_len-digits text (length text) (sym all))

no_digits : IsDigits []
no_digits k below = absurd (omega arith)

pub whole_number : (text : List ℕ) (n : Number) → IsDigits text → spelling text ≡ Some (whole_alone text)
    → n.coefficient ≡ signed false (unsigned_abs n.coefficient)
    → unsigned_abs n.coefficient * 10 ^ 0 ≡ value_after 0 text * 10 ^ n.scale → IsCanonical n → number_of text ≡ Some n
whole_number text n digits spelled sign value canonical =
    ap (λ o. o >>= number_of_spelling) spelled ∙ few_are (whole_alone text) n digits no_digits refl sign value canonical
