-- The numbers of the writes of the events that apply to a resource, found by the keys that it offers.
use Rattle.std.proofs.Common.{◌≡◌, ℕ, ◌+◌, ◌||◌, ◌++◌, ◌∷◌, [], Bool, true, false, cond, List, Option, Some, None, length, get_or, slice_get, map, filter, flat_map, option_to_list, zero, suc, refl, ap, sym, ◌∙◌, add-one}
use Rattle.std.proofs.lemmas.Bool.{false≢true, or_parts}
use Rattle.std.proofs.lemmas.List.{length-map}
use Rattle.std.specs.List.{range_with_len}
use Rattle.std.specs.Option.{option_and_then}
use Rattle.adr_object.specs.declared.party.Ven.{Ven}
use Rattle.adr_object.specs.declared.party.Resource.{Resource}
use Rattle.adr_model.specs.declared.written.Written.{Written}
use Rattle.adr_model.specs.Book.{Book}
use Rattle.adr_model.proofs.Lists.{flat_map-filter, list_any-filter}
use Rattle.adr_keys.specs.declared.key.Key.{Key}
use Rattle.adr_keys.specs.declared.key.Key.TheVariants.{Anyone}
use Rattle.adr_keys.specs.Rows.{offers_key, is_key_of}
use Rattle.adr_audience.specs.Offers.{offers}
use Rattle.adr_audience.specs.Asks.{asked_in, asks_of, asked_keys, shares, applies_with, applying_writes, number_at}
use Rattle.adr_audience.proofs.Shared.{one}

-- ---- candidates

-- a key that no row asks for is not asked for by the row at a place
unasked : (rows : List (List Key)) (p : ℕ) (k : Key) → is_key_of rows k ≡ false → offers_key (get_or rows p []) k ≡ false
unasked [] p k h = refl
unasked (row ∷ rows) zero k h = (or_parts _ _ h).0
unasked (row ∷ rows) (suc p) k h = unasked rows p k (or_parts _ _ h).1

-- the keys that no row asks for make no candidate
shares_asked : (rows : List (List Key)) (row : List Key) (p : ℕ) → shares (get_or rows p []) (Anyone ∷ asked_keys rows row) ≡ shares (get_or rows p []) (Anyone ∷ row)
shares_asked rows row p = ap (λ b. offers_key (get_or rows p []) Anyone || b) (list_any-filter (offers_key (get_or rows p [])) (is_key_of rows) row (unasked rows p))

-- ---- places in order

-- what is gone through from the next place on
range-next : {Y : Type 0} (f : ℕ → List Y) (a n : ℕ) → flat_map f (range_with_len (a + 1) n) ≡ flat_map (λ p. f (suc p)) (range_with_len a n)
range-next f a zero = refl
range-next f a (suc n) = ap (λ p. f p ++ flat_map f (range_with_len (a + 1 + 1) n)) (add-one a) ∙ ap (λ ys. f (suc a) ++ ys) (range-next f (a + 1) n)

module _ (book : Book) (r : Resource) (v : Ven) where
  -- the number of a write, if its event applies
  abbrev number_of : Written → Option ℕ
  number_of w = cond (applies_with book r v w.event) (Some w.written) None

  -- the events one by one are those at the places
  in_order : (ws : List Written) → flat_map (λ p. option_to_list (option_and_then number_of (slice_get ws p))) (range_with_len 0 (length ws)) ≡ map (λ w. w.written) (filter (λ w. applies_with book r v w.event) ws)
  in_order [] = refl
  in_order (w ∷ ws) =
      ap (λ ns. option_to_list (number_of w) ++ ns) (range-next (λ p. option_to_list (option_and_then number_of (slice_get (w ∷ ws) p))) 0 (length ws) ∙ in_order ws)
      ∙ by (applies_with book r v w.event)
    where
      by : (b : Bool) → (option_to_list (cond b (Some w.written) None) ++ map (λ w. w.written) (filter (λ w. applies_with book r v w.event) ws))
          ≡ map (λ w. w.written) (cond b (w ∷ filter (λ w. applies_with book r v w.event) ws) (filter (λ w. applies_with book r v w.event) ws))
      by true = refl
      by false = refl

  -- the event at a place that is no candidate does not apply
  no_number : (ws : List Written) (p : ℕ) → shares (get_or (map (λ w. asked_in book w.event) ws) p []) (Anyone ∷ offers r v) ≡ false
      → option_to_list (option_and_then number_of (slice_get ws p)) ≡ []
  no_number [] p h = refl
  no_number (w ∷ ws) zero h = by (applies_with book r v w.event) refl
    where
      by : (b : Bool) → applies_with book r v w.event ≡ b → option_to_list (cond b (Some w.written) None) ≡ []
      by true e = absurd (false≢true (sym h ∙ one book r v w.event e))
      by false e = refl
  no_number (w ∷ ws) (suc p) h = no_number ws p h

  pub numbers_found : (rows : List (List Key)) → rows ≡ asks_of book
      → flat_map (λ p. option_to_list (number_at book r v p)) (filter (λ p. shares (get_or rows p []) (Anyone ∷ asked_keys rows (offers r v))) (range_with_len 0 (length rows)))
      ≡ map (λ w. w.written) (applying_writes book r v)
  numbers_found rows e =
      ap (λ xs. flat_map (λ p. option_to_list (number_at book r v p)) (filter (λ p. shares (get_or xs p []) (Anyone ∷ asked_keys xs (offers r v))) (range_with_len 0 (length xs)))) e
      ∙ flat_map-filter (λ p. option_to_list (number_at book r v p)) (λ p. shares (get_or (asks_of book) p []) (Anyone ∷ asked_keys (asks_of book) (offers r v))) (range_with_len 0 (length (asks_of book)))
      (λ p out. no_number book.events p (sym (shares_asked (asks_of book) (offers r v) p) ∙ out))
      ∙ ap (λ n. flat_map (λ p. option_to_list (number_at book r v p)) (range_with_len 0 n)) (length-map book.events (λ w. asked_in book w.event))
      ∙ in_order book.events
