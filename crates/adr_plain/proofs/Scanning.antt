-- What a scan of a list has found when it has passed one more.
use Rattle.std.proofs.Common.{◌≡◌, ℤ, Bool, true, false, List, [], ◌∷◌, ◌++◌, append-nil, Option, Some, None, filter, refl, sym, ap, ◌∙◌, cond, arith}
use Rattle.std.proofs.lemmas.Int.{ints}
use Rattle.std.proofs.lemmas.List.Elements.{filter-append}
use Rattle.adr_time.specs.Spans.{is_before}
use Rattle.adr_time.specs.declared.span.End.{End}
use Rattle.adr_time.specs.declared.span.End.TheVariants.{At, Endless}
use Rattle.adr_model.specs.declared.entry.Entry.{Entry}
use Rattle.adr_model.specs.Answer.{earliest, earlier_of}
use Rattle.adr_model.specs.Governor.{first_of}
use Rattle.adr_model.specs.Rank.{goes_before}
use Rattle.adr_model.proofs.Order.{going_before_passes_on, not_going_before_passes_on}
use Rattle.std.specs.Option.{option_map_or}
use Rattle.adr_plain.specs.Scan.{first_with}

-- of three entries it is one which two are held against each other first
choice : (e f x : Entry) (a b : Bool) → goes_before e.rank f.rank ≡ a → goes_before f.rank x.rank ≡ b
    → cond (goes_before (cond a e f).rank x.rank) (cond a e f) x ≡ cond (goes_before e.rank (cond b f x).rank) e (cond b f x)
choice e f x true true ha hb =
    ap (λ (c : Bool). cond c e x) (going_before_passes_on e.rank f.rank x.rank ha hb) ∙ sym (ap (λ (c : Bool). cond c e f) ha)
choice e f x true false ha hb = refl
choice e f x false true ha hb = ap (λ (c : Bool). cond c f x) hb ∙ sym (ap (λ (c : Bool). cond c e f) ha)
choice e f x false false ha hb =
    ap (λ (c : Bool). cond c f x) hb ∙ sym (ap (λ (c : Bool). cond c e x) (not_going_before_passes_on e.rank f.rank x.rank ha hb))

abbrev first_of_two : Entry → Option Entry → Option Entry
first_of_two y o = Some (option_map_or (λ (f : Entry). cond (goes_before f.rank y.rank) f y) o y)

held_first : (e x : Entry) (o : Option Entry) → first_of_two x (Some (first_with e o)) ≡ Some (first_with e (first_of_two x o))
held_first e x None = refl
held_first e x (Some f) = ap (λ (y : Entry). Some y) (choice e f x (goes_before e.rank f.rank) (goes_before f.rank x.rank) refl refl)

-- the first of a list and one more is the first of that one and of the first
pub first_of-last : (es : List Entry) (e : Entry) → first_of (es ++ e ∷ []) ≡ Some (first_with e (first_of es))
first_of-last [] e = refl
first_of-last (x ∷ es) e = ap (first_of_two x) (first_of-last es e) ∙ held_first e x (first_of es)

pub first_passed : (test : Entry → Bool) (es : List Entry) (e : Entry)
    → first_of (filter test (es ++ e ∷ [])) ≡ cond (test e) (Some (first_with e (first_of (filter test es)))) (first_of (filter test es))
first_passed test es e = ap first_of (filter-append test es (e ∷ [])) ∙ by (test e)
  where
    by : (b : Bool) → first_of (filter test es ++ cond b (e ∷ []) []) ≡ cond b (Some (first_with e (first_of (filter test es)))) (first_of (filter test es))
    by true = first_of-last (filter test es) e
    by false = ap first_of (append-nil (filter test es))

swap : (t u : ℤ) (e : End) → earlier_of u (earlier_of t e) ≡ earlier_of t (earlier_of u e)
swap t u Endless = grind (arith, ints)
swap t u (At v) = grind (arith, ints)

pub earliest-last : (ts : List ℤ) (t : ℤ) → earliest (ts ++ t ∷ []) ≡ earlier_of t (earliest ts)
earliest-last [] t = refl
earliest-last (u ∷ ts) t = ap (earlier_of u) (earliest-last ts t) ∙ swap t u (earliest ts)

pub earliest_passed : (test : ℤ → Bool) (ts : List ℤ) (t : ℤ)
    → earliest (filter test (ts ++ t ∷ [])) ≡ cond (test t) (earlier_of t (earliest (filter test ts))) (earliest (filter test ts))
earliest_passed test ts t = ap earliest (filter-append test ts (t ∷ [])) ∙ by (test t)
  where
    by : (b : Bool) → earliest (filter test ts ++ cond b (t ∷ []) []) ≡ cond b (earlier_of t (earliest (filter test ts))) (earliest (filter test ts))
    by true = earliest-last (filter test ts) t
    by false = ap earliest (append-nil (filter test ts))

-- a bound that isn't before an end makes it no earlier
pub later_is_passed : (t : ℤ) (e : End) (c : Bool) → is_before t e ≡ false → cond c (earlier_of t e) e ≡ e
later_is_passed t e false after = refl
later_is_passed t (At u) true after = grind (arith, ints)
later_is_passed t Endless true after = grind (arith, ints)
