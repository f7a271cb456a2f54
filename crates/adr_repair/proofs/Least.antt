-- The first of a list goes before the others.
use Rattle.std.proofs.Common.{◌≡◌, ℕ, ℤ, ◌==◌, ◌&&◌, Bool, true, false, List, [], ◌∷◌, Option, Some, None, if◌then◌else◌, map, refl, ap, sym, subst, ◌∙◌, arith, inl, inr, ◌⊎◌}
use Rattle.std.specs.List.{IsDistinct}
use Rattle.std.proofs.lemmas.Bool.{both_ways}
use Rattle.std.proofs.lemmas.Bool.Decides.{nat_tests}
use Rattle.std.specs.Option.{option_map, option_map_or}
use Rattle.adr_value.specs.declared.payload.PayloadType.{PayloadType}
use Rattle.adr_model.specs.declared.entry.Entry.{Entry}
use Rattle.adr_model.specs.declared.entry.Rank.{Rank}
use Rattle.std.proofs.lemmas.Int.{ints}
use Rattle.adr_model.specs.declared.entry.Tie.{Tie}
use Rattle.adr_model.specs.Rank.{goes_before, ranked}
use Rattle.adr_model.proofs.Order.{none_goes_before_itself, not_both_ways, not_going_before_passes_on}
use Rattle.adr_model.specs.Book.{Book}
use Rattle.adr_model.specs.Governor.{candidates, governs, first_of, winner_of}
use Rattle.adr_model.specs.Lists.{In}
use Rattle.adr_repair.specs.Ranks.{IsLeast, IsGovernor, same_mark}
use Rattle.adr_model.proofs.Lists.{In_from_each}

module _ (x f : Entry) (xs : List Entry) (least : IsLeast xs f) where
  none_over_old : goes_before f.rank x.rank ≡ true → (g : Entry) → (x ≡ g) ⊎ In g xs → goes_before g.rank f.rank ≡ false
  none_over_old t g (inl e) = subst (λ (z : Entry). goes_before z.rank f.rank ≡ false) e (not_both_ways f.rank x.rank t)
  none_over_old t g (inr m) = least.1 g m

  none_over_new : goes_before f.rank x.rank ≡ false → (g : Entry) → (x ≡ g) ⊎ In g xs → goes_before g.rank x.rank ≡ false
  none_over_new t g (inl e) = subst (λ (z : Entry). goes_before z.rank x.rank ≡ false) e (none_goes_before_itself x.rank)
  none_over_new t g (inr m) = not_going_before_passes_on g.rank f.rank x.rank (least.1 g m) t

  chosen : (b : Bool) → goes_before f.rank x.rank ≡ b → IsLeast (x ∷ xs) (if b then f else x)
  chosen true t = (inr least.0, none_over_old t)
  chosen false t = (inl refl, none_over_new t)

-- the first of a list, where it has one
abbrev pub IsFirst : List Entry → Option Entry → Type 0
IsFirst es None = es ≡ []
IsFirst es (Some e) = IsLeast es e

pub first_is_least : (es : List Entry) → IsFirst es (first_of es)
first_is_least [] = refl
first_is_least (x ∷ xs) = by (first_of xs) (first_is_least xs)
  where
    by : (o : Option Entry) → IsFirst xs o → IsLeast (x ∷ xs) (option_map_or (λ f. if goes_before f.rank x.rank then f else x) o x)
    by None none = rw none (inl refl, λ g m. none_over_nothing g m)
      where
        none_over_nothing : (g : Entry) → (x ≡ g) ⊎ ⊥ → goes_before g.rank x.rank ≡ false
        none_over_nothing g (inl e) = subst (λ (z : Entry). goes_before z.rank x.rank ≡ false) e (none_goes_before_itself x.rank)
        none_over_nothing g (inr m) = absurd m
    by (Some f) least = chosen x f xs least (goes_before f.rank x.rank) refl

no_ranked : (tie : Tie) (es : List Entry) → map (ranked tie) es ≡ [] → es ≡ []
no_ranked tie [] h = refl
no_ranked tie (e ∷ es) h = absurd (cc)

pub governor_is_least : (tie : Tie) (book : Book) (id : List ℕ) (kind : PayloadType) (t : ℤ) → IsGovernor tie book id kind t (governs tie book id kind t)
unfolding governs
governor_is_least tie book id kind t =
    by (first_of (map (ranked tie) (candidates book id kind t))) (first_is_least (map (ranked tie) (candidates book id kind t)))
  where
    by : (o : Option Entry) → IsFirst (map (ranked tie) (candidates book id kind t)) o → IsGovernor tie book id kind t (option_map winner_of o)
    by None none = no_ranked tie (candidates book id kind t) none
    by (Some e) least = (e, least, refl)

-- ---- of distinct marks there is one least entry

pub one_mark : (a b : Rank) → goes_before a b ≡ false → goes_before b a ≡ false → ((a.written == b.written) && (a.place == b.place)) ≡ true
one_mark a b h k = grind (arith, ints, nat_tests)

flip_mark : (a b : Entry) → same_mark a b ≡ true → same_mark b a ≡ true
flip_mark a b h = grind (arith, nat_tests)

pub one_entry : (es : List Entry) → IsDistinct same_mark es → (e f : Entry) → In e es → In f es → same_mark e f ≡ true → e ≡ f
unfolding IsDistinct
one_entry [] d e f m n h = absurd m
one_entry (x ∷ xs) d e f (inl a) (inl b) h = sym a ∙ b
one_entry (x ∷ xs) d e f (inl a) (inr n) h =
    absurd (both_ways (same_mark x f) (In_from_each (λ y. same_mark x y ≡ false) xs d.0 f n) (subst (λ y. same_mark y f ≡ true) (sym a) h))
one_entry (x ∷ xs) d e f (inr m) (inl b) h =
    absurd (both_ways (same_mark x e) (In_from_each (λ y. same_mark x y ≡ false) xs d.0 e m) (subst (λ y. same_mark y e ≡ true) (sym b) (flip_mark e f h)))
one_entry (x ∷ xs) d e f (inr m) (inr n) h = one_entry xs d.1 e f m n h

pub one_least : (es : List Entry) → IsDistinct same_mark es → (e f : Entry) → IsLeast es e → IsLeast es f → e ≡ f
one_least es d e f a b = one_entry es d e f a.0 b.0 (one_mark e.rank f.rank (b.1 e a.0) (a.1 f b.0))

-- the first of a list of distinct marks does not see the order
pub first_in_any_order : (xs ys : List Entry) → IsDistinct same_mark xs → ((e : Entry) → In e xs → In e ys) → ((e : Entry) → In e ys → In e xs) → first_of xs ≡ first_of ys
first_in_any_order xs ys d there back = by (first_of xs) (first_of ys) (first_is_least xs) (first_is_least ys)
  where
    nobody : (zs : List Entry) (e : Entry) → zs ≡ [] → In e zs → ⊥
    nobody zs e n m = subst (λ (l : List Entry). In e l) n m

    by : (a b : Option Entry) → IsFirst xs a → IsFirst ys b → a ≡ b
    by None None p q = refl
    by None (Some f) p q = absurd (nobody xs f p (back f q.0))
    by (Some e) None p q = absurd (nobody ys e q (there e p.0))
    by (Some e) (Some f) p q = ap Some (one_least xs d e f p (back f q.0, λ g m. q.1 g (there g m)))
