-- The places that the rows of a whole book give are those where the event applies.
use Rattle.std.proofs.Common.{◌≡◌, ℕ, ◌<◌, [], ◌∷◌, Bool, true, false, List, Option, Some, None, length, get_or, slice_get, map, filter, is_some, zero, suc, refl, ap, ◌∙◌, arith, inl, inr}
use Rattle.std.proofs.lemmas.List.{length-map}
use Rattle.std.specs.List.{range_with_len}
use Rattle.std.specs.Option.{option_map_or}
use Rattle.adr_object.specs.declared.event.Event.{Event}
use Rattle.adr_object.specs.declared.party.Program.{Program}
use Rattle.adr_object.specs.declared.party.Ven.{Ven}
use Rattle.adr_object.specs.declared.party.Resource.{Resource}
use Rattle.adr_model.specs.Book.{Book, ven_by}
use Rattle.adr_model.specs.Matching.{applies}
use Rattle.adr_model.specs.Lists.{In}
use Rattle.adr_model.specs.Whole.{IsWhole}
use Rattle.adr_keys.specs.declared.key.Key.{Key}
use Rattle.adr_keys.specs.Rows.{offers_key}
use Rattle.adr_audience.specs.Offers.{offers}
use Rattle.adr_audience.specs.Query.{is_for, places_where}
use Rattle.adr_audience.specs.Rows.{offered_in, offers_of}
use Rattle.adr_audience.specs.Laws.{applies_in, applying_places}
use Rattle.adr_audience.proofs.Queried.{filter-range}
use Rattle.adr_audience.proofs.Matched.{rows_match}

module _ (book : Book) (event : Event) (program : Program) where
  abbrev test : List Key → Bool
  test row = is_for event program (offers_key row)

  one : (r : Resource) → is_some (ven_by book r.ven_id) ≡ true → test (offered_in book r) ≡ applies_in book event program r
  one r h = by (ven_by book r.ven_id) h
    where
      by : (o : Option Ven) → is_some o ≡ true → test (option_map_or (offers r) o []) ≡ option_map_or (λ ven. applies (record { program = program; event = event; ven = ven; resource = r })) o false
      by None q = absurd (cc)
      by (Some v) q = rows_match event program v r

  each : (rs : List Resource) → ((r : Resource) → In r rs → is_some (ven_by book r.ven_id) ≡ true) → (p : ℕ) → p < length rs
      → test (get_or (map (offered_in book) rs) p []) ≡ option_map_or (applies_in book event program) (slice_get rs p) false
  each [] h p l = absurd (omega arith)
  each (r ∷ rs) h zero l = one r (h r (inl refl))
  each (r ∷ rs) h (suc p) l = each rs (λ q i. h q (inr i)) p (omega arith)

  pub applied : IsWhole book → places_where test (offers_of book) ≡ applying_places book event program
  applied whole =
      filter-range (λ p. test (get_or (offers_of book) p [])) (λ p. option_map_or (applies_in book event program) (slice_get book.resources p) false) 0 (length (offers_of book))
      (λ p l. each book.resources whole.vens p (omega (arith, l, length-map book.resources (offered_in book))))
      ∙ ap (λ n. filter (λ p. option_map_or (applies_in book event program) (slice_get book.resources p) false) (range_with_len 0 n)) (length-map book.resources (offered_in book))
