-- Look-ups after an edit.
use Rattle.std.proofs.Common.{◌≡◌, ℕ, List, [], ◌∷◌, ◌++◌, Bool, true, false, cond, not, filter, Option, Some, None, refl, sym, ap, ◌∙◌, subst, arith}
use Rattle.std.specs.declared.cmp.Ordering.{Ordering}
use Rattle.std.specs.declared.cmp.Ordering.TheVariants.{Less, Equal, Greater}
use Rattle.std.specs.Ordering.{nat_cmp, is_lt, is_eq, is_gt, ordering_reverse, ordering_then}
use Rattle.std.specs.Cmp.Lexicographic.{nat_list_cmp_total}
use Rattle.std.specs.Str.{bytes_eq}
use Rattle.std.proofs.lemmas.Slice.Eq.{bytes_eq-Decides}
use Rattle.adr_shared.specs.Map.{code_cmp, lookup, below, above, put}
use Rattle.adr_shared.specs.Laws.{PutIsFound, TakenIsGone}

same_number : (a b : ℕ) → nat_cmp a b ≡ Equal → a ≡ b
same_number a b h = grind (arith, h)

-- codes that compare as equal are equal
pub same_code : (a b : List ℕ) → code_cmp a b ≡ Equal → a ≡ b
same_code [] [] h = refl
same_code [] (y ∷ ys) h = absurd (cc)
same_code (x ∷ xs) [] h = absurd (cc)
same_code (x ∷ xs) (y ∷ ys) h = by (nat_cmp x y) refl h (same_code xs ys)
  where
    by : (o : Ordering) → nat_cmp x y ≡ o → code_cmp (x ∷ xs) (y ∷ ys) ≡ Equal → (code_cmp xs ys ≡ Equal → xs ≡ ys) → x ∷ xs ≡ y ∷ ys
    by Equal e k rest = ap (λ n. n ∷ xs) (same_number x y e) ∙ ap (λ l. y ∷ l) (rest (sym (ap (λ o. ordering_then o (code_cmp xs ys)) e) ∙ k))
    by Less e k rest = absurd (cc)
    by Greater e k rest = absurd (cc)

-- a code compares as equal with itself
pub own_code : (a : List ℕ) → code_cmp a a ≡ Equal
own_code a = by (code_cmp a a) (nat_list_cmp_total.antisymm a a)
  where
    by : (o : Ordering) → o ≡ ordering_reverse o → o ≡ Equal
    by Equal h = refl
    by Less h = absurd (cc)
    by Greater h = absurd (cc)

-- comparing as equal is being equal
pub is_code : (a b : List ℕ) → is_eq (code_cmp a b) ≡ bytes_eq a b
is_code a b = by (code_cmp a b) refl (bytes_eq a b) refl
  where
    by : (o : Ordering) → code_cmp a b ≡ o → (t : Bool) → bytes_eq a b ≡ t → is_eq o ≡ t
    by Equal e true f = refl
    by Less e false f = refl
    by Greater e false f = refl
    by Equal e false f = sym ((bytes_eq-Decides a b).1 (same_code a b e)) ∙ f
    by Less e true f = let k : code_cmp a b ≡ Equal = subst (λ c. code_cmp a c ≡ Equal) ((bytes_eq-Decides a b).0 f) (own_code a) in absurd (cc)
    by Greater e true f = let k : code_cmp a b ≡ Equal = subst (λ c. code_cmp a c ≡ Equal) ((bytes_eq-Decides a b).0 f) (own_code a) in absurd (cc)

turned : (c d : List ℕ) (o : Ordering) → code_cmp c d ≡ o → code_cmp d c ≡ ordering_reverse o
turned c d o e = nat_list_cmp_total.antisymm d c ∙ ap ordering_reverse e

module _ {V : Type 0} where
  nothing : (o : Option V) → o ≡ None → (b : Bool) → cond b o None ≡ None
  nothing o h true = h
  nothing o h false = refl

  -- a test of codes keeps an entry or drops it, and the others are as they were
  looked_up : (t : List ℕ → Bool) (d : List ℕ) (es : List (List ℕ × V)) → lookup d (filter (λ e. t e.0) es) ≡ cond (t d) (lookup d es) None
  looked_up t d [] = sym (nothing None refl (t d))
  looked_up t d (e ∷ es) = by (code_cmp d e.0) refl (t e.0) refl (looked_up t d es)
    where
      here : (b : Bool) → t e.0 ≡ b → t d ≡ b → lookup d (filter (λ x. t x.0) es) ≡ cond (t d) (lookup d es) None → code_cmp d e.0 ≡ Equal
          → lookup d (cond b (e ∷ filter (λ x. t x.0) es) (filter (λ x. t x.0) es)) ≡ cond (t d) (lookup d (e ∷ es)) None
      here true f g rest k = rw (g, k) refl
      here false f g rest k = rest ∙ rw g refl

      other : (o : Ordering) → is_eq o ≡ false → code_cmp d e.0 ≡ o → (b : Bool) → lookup d (filter (λ x. t x.0) es) ≡ cond (t d) (lookup d es) None
          → lookup d (cond b (e ∷ filter (λ x. t x.0) es) (filter (λ x. t x.0) es)) ≡ cond (t d) (lookup d (e ∷ es)) None
      other o n k true rest = rw (ap is_eq k ∙ n) rest
      other o n k false rest = rw (ap is_eq k ∙ n) rest

      by : (o : Ordering) → code_cmp d e.0 ≡ o → (b : Bool) → t e.0 ≡ b → lookup d (filter (λ x. t x.0) es) ≡ cond (t d) (lookup d es) None
          → lookup d (cond b (e ∷ filter (λ x. t x.0) es) (filter (λ x. t x.0) es)) ≡ cond (t d) (lookup d (e ∷ es)) None
      by Equal k b f rest = here b f (ap t (same_code d e.0 k) ∙ f) rest k
      by Less k b f rest = other Less refl k b rest
      by Greater k b f rest = other Greater refl k b rest

  -- what isn't in the first part is looked up in the second
  second_part : (d : List ℕ) (xs ys : List (List ℕ × V)) → lookup d xs ≡ None → lookup d (xs ++ ys) ≡ lookup d ys
  second_part d [] ys h = refl
  second_part d (e ∷ xs) ys h = by (is_eq (code_cmp d e.0)) h (second_part d xs ys)
    where
      by : (b : Bool) → cond b (Some e.1) (lookup d xs) ≡ None → (lookup d xs ≡ None → lookup d (xs ++ ys) ≡ lookup d ys) → cond b (Some e.1) (lookup d (xs ++ ys)) ≡ lookup d ys
      by true k rest = absurd (cc)
      by false k rest = rest k

  first_part : (d : List ℕ) (xs ys : List (List ℕ × V)) → lookup d ys ≡ None → lookup d (xs ++ ys) ≡ lookup d xs
  first_part d [] ys h = h
  first_part d (e ∷ xs) ys h = ap (cond (is_eq (code_cmp d e.0)) (Some e.1)) (first_part d xs ys h)

  pub put_is_found : PutIsFound V
  put_is_found es c v d = by (code_cmp c d) refl ∙ ap (λ b. cond b (Some v) (lookup d es)) (is_code d c)
    where
      low : lookup d (below c es) ≡ cond (is_gt (code_cmp c d)) (lookup d es) None
      low = looked_up (λ k. is_gt (code_cmp c k)) d es

      high : lookup d (above c es) ≡ cond (is_lt (code_cmp c d)) (lookup d es) None
      high = looked_up (λ k. is_lt (code_cmp c k)) d es

      by : (o : Ordering) → code_cmp c d ≡ o → lookup d (put c v es) ≡ cond (is_eq (code_cmp d c)) (Some v) (lookup d es)
      by Equal e = second_part d (below c es) ((c, v) ∷ above c es) (low ∙ rw e refl) ∙ rw (turned c d Equal e) refl
      by Less e = second_part d (below c es) ((c, v) ∷ above c es) (low ∙ rw e refl) ∙ rw (turned c d Less e) (high ∙ rw e refl)
      by Greater e = first_part d (below c es) ((c, v) ∷ above c es) (rw (turned c d Greater e) (high ∙ rw e refl)) ∙ low ∙ rw (e, turned c d Greater e) refl

  pub taken_is_gone : TakenIsGone V
  taken_is_gone es c d = looked_up (λ k. not (is_eq (code_cmp c k))) d es ∙ ap (λ b. cond (not b) (lookup d es) None) (is_code c d) ∙ by (bytes_eq c d) refl
    where
      by : (b : Bool) → bytes_eq c d ≡ b → cond (not b) (lookup d es) None ≡ cond (bytes_eq d c) None (lookup d es)
      by true e = rw ((bytes_eq-Decides d c).1 (sym ((bytes_eq-Decides c d).0 e))) refl
      by false e = rest (bytes_eq d c) refl
        where
          rest : (t : Bool) → bytes_eq d c ≡ t → lookup d es ≡ cond t None (lookup d es)
          rest true k = let same : bytes_eq c d ≡ true = (bytes_eq-Decides c d).1 (sym ((bytes_eq-Decides d c).0 k)) in absurd (cc)
          rest false k = refl
