-- Rows of objects that name another, when that one changes.
use Rattle.std.proofs.Common.{◌≡◌, ℕ, ◌∷◌, [], Bool, true, false, cond, List, Some, None, map, is_some, refl, ap, sym, ◌∙◌, bytes_eq}
use Rattle.std.proofs.lemmas.Slice.Eq.{bytes_eq-Decides}
use Rattle.std.specs.Option.{option_map_or, unwrap_or}
use Rattle.adr_keys.specs.declared.key.Key.{Key}
use Rattle.adr_keys.specs.Rows.{renewed}
use Rattle.adr_audience.proofs.Placed.{by_id, put, found_own, found_other}

-- the row of an object with the one that it names, and the id that it names it by
module _ {X N : Type 0} (row : X → N → List Key) (names : X → List ℕ) (id : N → List ℕ) where
  abbrev row_in : List N → X → List Key
  row_in ns x = option_map_or (row x) (by_id id (names x) ns) []

  module _ (new : N) (ns : List N) (there : is_some (by_id id (id new) ns) ≡ true) where
    one_row : (x : X) → row_in (put id new ns) x ≡ cond (bytes_eq (id new) (names x)) (row x new) (row_in ns x)
    one_row x = by (bytes_eq (id new) (names x)) refl
      where
        by : (b : Bool) → bytes_eq (id new) (names x) ≡ b → row_in (put id new ns) x ≡ cond b (row x new) (row_in ns x)
        by true e = ap (λ o. option_map_or (row x) o []) (ap (λ i. by_id id i (put id new ns)) (sym ((bytes_eq-Decides (id new) (names x)).0 e)) ∙ found_own id new ns there)
        by false e = ap (λ o. option_map_or (row x) o []) (found_other id new (names x) ns e)

    pub rows_renewed : (xs : List X) → map (row_in (put id new ns)) xs ≡ renewed (map (λ x. cond (bytes_eq (id new) (names x)) (Some (row x new)) None) xs) (map (row_in ns) xs)
    rows_renewed [] = refl
    rows_renewed (x ∷ xs) =
        ap (λ r. r ∷ map (row_in (put id new ns)) xs) (one_row x ∙ chosen (bytes_eq (id new) (names x)) (row x new) (row_in ns x))
        ∙ ap (λ rs. unwrap_or (cond (bytes_eq (id new) (names x)) (Some (row x new)) None) (row_in ns x) ∷ rs) (rows_renewed xs)
      where
        chosen : (b : Bool) (r s : List Key) → cond b r s ≡ unwrap_or (cond b (Some r) None) s
        chosen true r s = refl
        chosen false r s = refl
