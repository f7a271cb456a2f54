-- The resources of a ven are among those that offer its name.
use Rattle.std.proofs.Common.{◌≡◌, ℕ, ◌<◌, [], ◌∷◌, Bool, true, false, cond, List, Option, Some, length, get_or, slice_get, map, filter, zero, suc, refl, ap, sym, ◌∙◌, arith, bytes_eq}
use Rattle.std.proofs.lemmas.Bool.{false≢true}
use Rattle.std.proofs.lemmas.List.{length-map}
use Rattle.std.proofs.lemmas.Slice.Eq.{bytes_eq-Decides}
use Rattle.std.specs.List.{range_with_len}
use Rattle.std.specs.Option.{option_map_or}
use Rattle.adr_object.specs.declared.party.Ven.{Ven as OneVen}
use Rattle.adr_object.specs.declared.party.Resource.{Resource}
use Rattle.adr_model.specs.Book.{Book, ven_by}
use Rattle.adr_keys.specs.declared.key.Key.TheVariants.{Ven}
use Rattle.adr_keys.specs.Rows.{offers_key}
use Rattle.adr_audience.specs.Offers.{offers}
use Rattle.adr_audience.specs.Rows.{is_of_ven, offered_in, offers_of, places_of_ven}
use Rattle.adr_audience.proofs.Matched.{ven_named}

-- those that pass a test are among those that pass a wider one
filter-narrowed : (f g : ℕ → Bool) (xs : List ℕ) → ((x : ℕ) → f x ≡ true → g x ≡ true) → filter f (filter g xs) ≡ filter f xs
filter-narrowed f g [] h = refl
filter-narrowed f g (x ∷ xs) h = by (f x) refl (g x) refl (filter-narrowed f g xs h)
  where
    by : (a : Bool) → f x ≡ a → (b : Bool) → g x ≡ b → filter f (filter g xs) ≡ filter f xs → filter f (cond b (x ∷ filter g xs) (filter g xs)) ≡ cond (f x) (x ∷ filter f xs) (filter f xs)
    by a p true q rest = ap (λ ys. cond (f x) (x ∷ ys) ys) rest
    by true p false q rest = absurd (false≢true (sym q ∙ h x p))
    by false p false q rest = rest ∙ sym (ap (λ c. cond c (x ∷ filter f xs) (filter f xs)) p)

abbrev is_own : List ℕ → Option Resource → Bool
is_own id o = option_map_or (λ r. bytes_eq id r.ven_id) o false

within : (id : List ℕ) (rs : List Resource) (p : ℕ) → is_own id (slice_get rs p) ≡ true → p < length rs
within id [] p h = absurd (false≢true h)
within id (r ∷ rs) zero h = omega arith
within id (r ∷ rs) (suc p) h = let l = within id rs p h in omega arith

pub own_within : (book : Book) (id : List ℕ) (p : ℕ) → is_of_ven book id p ≡ true → p < length book.resources
own_within book id p own = within id book.resources p own

module _ (book : Book) (id : List ℕ) (ven : OneVen) (there : ven_by book id ≡ Some ven) where
  offers_name : (r : Resource) → bytes_eq id r.ven_id ≡ true → offers_key (offered_in book r) (Ven ven.ven_name) ≡ true
  offers_name r own =
      ap (λ o. offers_key (option_map_or (offers r) o []) (Ven ven.ven_name)) (ap (ven_by book) (sym ((bytes_eq-Decides id r.ven_id).0 own)) ∙ there)
      ∙ ven_named r ven ven.ven_name ∙ (bytes_eq-Decides ven.ven_name ven.ven_name).1 refl

  named_row : (rs : List Resource) (p : ℕ) → is_own id (slice_get rs p) ≡ true → offers_key (get_or (map (offered_in book) rs) p []) (Ven ven.ven_name) ≡ true
  named_row [] p h = absurd (false≢true h)
  named_row (r ∷ rs) zero h = offers_name r h
  named_row (r ∷ rs) (suc p) h = named_row rs p h

  -- a test that tells which rows have the ven's name passes the places of its resources
  module _ (named : ℕ → Bool) (tells : (p : ℕ) → p < length (offers_of book) → named p ≡ offers_key (get_or (offers_of book) p []) (Ven ven.ven_name)) where
    pub own_is_named : (p : ℕ) → is_of_ven book id p ≡ true → named p ≡ true
    own_is_named p own =
        let l = own_within book id p own in
        tells p (omega (arith, l, length-map book.resources (offered_in book))) ∙ named_row book.resources p own

    pub own_places : filter (is_of_ven book id) (filter named (range_with_len 0 (length (offers_of book)))) ≡ places_of_ven book id
    own_places =
        filter-narrowed (is_of_ven book id) named (range_with_len 0 (length (offers_of book))) own_is_named
        ∙ ap (λ n. filter (is_of_ven book id) (range_with_len 0 n)) (length-map book.resources (offered_in book))
