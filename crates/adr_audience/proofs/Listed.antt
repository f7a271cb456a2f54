-- Lists that are gone through by place.
use Rattle.std.proofs.Common.{◌≡◌, ℕ, ◌+◌, ◌<◌, [], ◌∷◌, ◌++◌, List, Option, Some, None, length, option_map, refl, slice_get, map, take, zero, suc, ap, sym, ◌∙◌, arith}
use Rattle.std.proofs.lemmas.List.{map-append}

pub element : {X : Type 0} (xs : List X) (p : ℕ) → p < length xs → (x : X) × (slice_get xs p ≡ Some x)
element [] p h = absurd (omega arith)
element (y ∷ ys) zero h = (y, refl)
element (y ∷ ys) (suc p) h = element ys p (omega arith)

-- the elements so far, and one more
pub take_next : {X : Type 0} (xs : List X) (p : ℕ) (x : X) → slice_get xs p ≡ Some x → take (p + 1) xs ≡ take p xs ++ x ∷ []
take_next [] p x e = absurd (cc)
take_next (y ∷ ys) zero x e = let q : y ≡ x = cc in ap (λ z. z ∷ []) q
take_next (y ∷ ys) (suc p) x e = let q : suc p + 1 ≡ suc (p + 1) = omega arith in ap (λ n. take n (y ∷ ys)) q ∙ ap (λ zs. y ∷ zs) (take_next ys p x e)

pub map_next : {X Y : Type 0} (f : X → Y) (xs : List X) (p : ℕ) (x : X) → slice_get xs p ≡ Some x → map f (take p xs) ++ f x ∷ [] ≡ map f (take (p + 1) xs)
map_next f xs p x e = sym (ap (map f) (take_next xs p x e) ∙ map-append f (take p xs) (x ∷ []))

-- so too where the element is only known in part
pub map_next_of : {X Y Z : Type 0} (part : X → Y) (f : Y → Z) (xs : List X) (p : ℕ) (y : Y) → option_map part (slice_get xs p) ≡ Some y
    → map (λ x. f (part x)) (take p xs) ++ f y ∷ [] ≡ map (λ x. f (part x)) (take (p + 1) xs)
map_next_of {X} {Y} {Z} part f xs p y e = by (slice_get xs p) refl e
  where
    by : (o : Option X) → slice_get xs p ≡ o → option_map part o ≡ Some y → map (λ x. f (part x)) (take p xs) ++ f y ∷ [] ≡ map (λ x. f (part x)) (take (p + 1) xs)
    by None d q = absurd (cc)
    by (Some x) d q = let own : part x ≡ y = cc in ap (λ z. map (λ x. f (part x)) (take p xs) ++ f z ∷ []) (sym own) ∙ map_next (λ x. f (part x)) xs p x d
