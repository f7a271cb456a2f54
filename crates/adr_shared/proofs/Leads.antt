-- Leads of texts go with the order of texts.
use Rattle.std.proofs.Common.{◌≡◌, ℕ, zero, suc, ◌+◌, ◌*◌, ◌<◌, ◌≤◌, List, [], ◌∷◌, get_or, refl, sym, ap, ◌∙◌, subst, arith}
use Rattle.std.specs.Int.{w64, from_be_bytes}
use Rattle.std.specs.declared.cmp.Ordering.{Ordering}
use Rattle.std.specs.declared.cmp.Ordering.TheVariants.{Less, Equal, Greater}
use Rattle.std.specs.Ordering.{nat_cmp, ordering_then}
use Rattle.adr_shared.specs.Map.{code_cmp}
use Rattle.adr_shared.specs.Lead.{with_digits, lead_of_text, AreBytes, LeadsFollowTexts}

-- the lead's bytes, one by one
pub eight_digits : (bs : List ℕ)
    → from_be_bytes w64 (get_or bs 0 0 ∷ get_or bs 1 0 ∷ get_or bs 2 0 ∷ get_or bs 3 0 ∷ get_or bs 4 0 ∷ get_or bs 5 0 ∷ get_or bs 6 0 ∷ get_or bs 7 0 ∷ []) ≡ lead_of_text bs
eight_digits [] = omega arith
eight_digits (a ∷ []) = omega arith
eight_digits (a ∷ b ∷ []) = omega arith
eight_digits (a ∷ b ∷ c ∷ []) = omega arith
eight_digits (a ∷ b ∷ c ∷ d ∷ []) = omega arith
eight_digits (a ∷ b ∷ c ∷ d ∷ e ∷ []) = omega arith
eight_digits (a ∷ b ∷ c ∷ d ∷ e ∷ f ∷ []) = omega arith
eight_digits (a ∷ b ∷ c ∷ d ∷ e ∷ f ∷ g ∷ []) = omega arith
eight_digits (a ∷ b ∷ c ∷ d ∷ e ∷ f ∷ g ∷ h ∷ rest) = omega arith

-- the smaller number stays smaller, whatever bytes follow it
rises : (n x y : ℕ) (us vs : List ℕ) → AreBytes us → x < y → with_digits n x us < with_digits n y vs
rises zero x y us vs h l = l
rises (suc n) x y [] [] h l = rises n (x * 256) (y * 256) [] [] tt (omega arith)
rises (suc n) x y [] (v ∷ vs) h l = rises n (x * 256) (y * 256 + v) [] vs tt (omega arith)
rises (suc n) x y (u ∷ us) [] h l = rises n (x * 256 + u) (y * 256) us [] h.1 (omega (arith, h.0))
rises (suc n) x y (u ∷ us) (v ∷ vs) h l = rises n (x * 256 + u) (y * 256 + v) us vs h.1 (omega (arith, h.0))

-- zeros are the least that can follow
zeros_least : (n x y : ℕ) (us : List ℕ) → x ≤ y → with_digits n x [] ≤ with_digits n y us
zeros_least zero x y us l = l
zeros_least (suc n) x y [] l = zeros_least n (x * 256) (y * 256) [] (omega arith)
zeros_least (suc n) x y (u ∷ us) l = zeros_least n (x * 256) (y * 256 + u) us (omega arith)

less_of : (u v : ℕ) → nat_cmp u v ≡ Greater → v < u
less_of u v e = grind (arith, e)

same_of : (u v : ℕ) → nat_cmp u v ≡ Equal → u ≡ v
same_of u v e = grind (arith, e)

follows : (n x : ℕ) (us vs : List ℕ) → AreBytes us → AreBytes vs → with_digits n x us < with_digits n x vs → code_cmp us vs ≡ Less
follows zero x us vs g h l = absurd (omega (arith, l))
follows (suc n) x [] [] g h l = absurd (omega (arith, l))
follows (suc n) x [] (v ∷ vs) g h l = refl
follows (suc n) x (u ∷ us) [] g h l = absurd (omega (arith, l, zeros_least n (x * 256) (x * 256 + u) us (omega arith)))
follows (suc n) x (u ∷ us) (v ∷ vs) g h l = by (nat_cmp u v) refl (follows n (x * 256 + u) us vs g.1 h.1)
  where
    by : (o : Ordering) → nat_cmp u v ≡ o → (with_digits n (x * 256 + u) us < with_digits n (x * 256 + u) vs → code_cmp us vs ≡ Less) → ordering_then (nat_cmp u v) (code_cmp us vs) ≡ Less
    by Less e rest = ap (λ o. ordering_then o (code_cmp us vs)) e
    by Equal e rest =
        let same : u ≡ v = same_of u v e in
        ap (λ o. ordering_then o (code_cmp us vs)) e ∙ rest (subst (λ w. with_digits n (x * 256 + u) us < with_digits n (x * 256 + w) vs) (sym same) l)
    by Greater e rest =
        let less = less_of u v e in
        absurd (omega (arith, l, rises n (x * 256 + v) (x * 256 + u) vs us h.1 (omega (arith, less))))

pub leads_follow_texts : LeadsFollowTexts
leads_follow_texts text other g h l = follows 8 0 text other g h l
