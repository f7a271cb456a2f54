-- In a window every instant is disturbed.
use Rattle.std.proofs.Common.{◌≡◌, ℕ, ℤ, Bool, true, false, if◌then◌else◌, List, [], ◌∷◌, ◌++◌, map, Option, None, Some, refl, ap, sym, subst, ◌∙◌, flat_map, filter_map, ◌==◌, ◌⊎◌, ◌≢◌, inl, inr}
use Rattle.std.specs.List.{list_any, IsDistinct, enumerate_from, zip, cons_option}
use Rattle.std.specs.Str.{bytes_eq}
use Rattle.std.specs.Bool.{then_some}
use Rattle.std.specs.Result.{result_unwrap_or}
use Rattle.std.proofs.lemmas.List.Folds.{list_any-append}
use Rattle.std.proofs.lemmas.Bool.{or_cases, and_parts, false≢true, eqb-false}
use Rattle.adr_value.specs.declared.payload.PayloadType.{PayloadType}
use Rattle.adr_time.specs.Spans.{covers}
use Rattle.adr_time.specs.declared.span.Span.{Span}
use Rattle.adr_object.specs.declared.event.Interval.{Interval}
use Rattle.adr_model.specs.declared.entry.Entry.{Entry}
use Rattle.adr_model.specs.declared.entry.Rank.{Rank}
use Rattle.adr_model.specs.declared.written.Written.{Written}
use Rattle.adr_model.specs.Layout.{layout}
use Rattle.adr_model.specs.Rank.{carries}
use Rattle.adr_model.specs.Book.{Book}
use Rattle.adr_model.specs.Governor.{entry_at, entries_of, candidates, Disturbed}
use Rattle.adr_model.specs.Touches.{applying, touches, touches_of, touches_between, ids_of_both}
use Rattle.adr_model.specs.Lists.{In}
use Rattle.adr_model.specs.Whole.{event_ids}
use Rattle.adr_repair.specs.Windows.{is_touched, is_window_at}
use Rattle.adr_model.proofs.Lists.{part_with_one, passing_in, In-filter, In-from_filter, In-flat_map, In-from_flat_map, In-map, In-from_map, Contains-from_In, In-from_Contains, same_bytes}
use Rattle.adr_repair.proofs.Windows.{event_touches}
use Rattle.adr_repair.proofs.Candidates.{live, candidates_by_id, applying_there}
use Rattle.adr_model.proofs.Succession.{Succeeds}

-- ---- the entries of a write have its number

module _ (kind : PayloadType) (w : Written) where
  number_of : (ps : List (ℕ × (Interval × Span))) (x : Entry) → In x (filter_map (λ p. then_some (carries p.1.0 kind) (entry_at w p.0 p.1.1)) ps) → x.rank.written ≡ w.written
  number_of [] x m = absurd m
  number_of (p ∷ ps) x m = by (carries p.1.0 kind) (number_of ps x) m
    where
      by : (c : Bool) → (In x (filter_map (λ p. then_some (carries p.1.0 kind) (entry_at w p.0 p.1.1)) ps) → x.rank.written ≡ w.written)
          → In x (cons_option (then_some c (entry_at w p.0 p.1.1)) (filter_map (λ p. then_some (carries p.1.0 kind) (entry_at w p.0 p.1.1)) ps))
          → x.rank.written ≡ w.written
      by true later (inl e) = ap (λ (y : Entry). y.rank.written) (sym e)
      by true later (inr n) = later n
      by false later n = later n

  pub number_of_entry : (x : Entry) → In x (entries_of kind w) → x.rank.written ≡ w.written
  number_of_entry x m = number_of (enumerate_from 0 (zip w.event.intervals (result_unwrap_or (layout w.event) []))) x m

-- ---- a candidate of one book that the other has not

abbrev ranks : Book → List ℕ → PayloadType → ℤ → List Rank
ranks book id kind t = map (λ e. e.rank) (candidates book id kind t)

module _ (here there : Book) (id : List ℕ) (kind : PayloadType) (t : ℤ)
    (d : IsDistinct bytes_eq (event_ids here)) (f : IsDistinct bytes_eq (event_ids there))
    (same_write : (w v : Written) → In w here.events → In v there.events → w.written ≡ v.written → w ≡ v) where
  is_candidate : (e : List ℕ) (w : Written) (x : Entry) → applying here id e ≡ Some w → In x (live kind t (Some w)) → In x.rank (ranks here id kind t)
  is_candidate e w x a m =
      let p = applying_there here id e w a in
      let place : In e (event_ids here) = subst (λ (z : List ℕ). In z (event_ids here)) p.1 (In-map (λ (v : Written). v.event.id) here.events w p.0) in
      let there : In x (flat_map (λ v. live kind t (applying here id v)) (event_ids here)) =
      In-flat_map (λ v. live kind t (applying here id v)) (event_ids here) e x place (subst (λ (o : Option Written). In x (live kind t o)) (sym a) m) in
      In-map (λ (y : Entry). y.rank) (candidates here id kind t) x (subst (λ (l : List Entry). In x l) (sym (candidates_by_id here id kind t d)) there)

  is_no_candidate : (e : List ℕ) (w : Written) (rank : Rank) → applying here id e ≡ Some w → rank.written ≡ w.written
      → ((v : Written) → applying there id e ≡ Some v → w.written ≡ v.written → ⊥)
      → In rank (ranks there id kind t) → ⊥
  is_no_candidate e w rank a number other m =
      let from = In-from_map (λ (y : Entry). y.rank) (candidates there id kind t) rank m in
      let event = In-from_flat_map (λ v. live kind t (applying there id v)) (event_ids there) from.0 (subst (λ (l : List Entry). In from.0 l) (candidates_by_id there id kind t f) from.1) in
      by from.0 from.2 event.0 (applying there id event.0) refl event.2
    where
      by : (y : Entry) → y.rank ≡ rank → (g : List ℕ) (o : Option Written) → applying there id g ≡ o → In y (live kind t o) → ⊥
      by y r g None b n = n
      by y r g (Some v) b n =
          let same_number : w.written ≡ v.written =
          sym number ∙ ap (λ (k : Rank). k.written) (sym r) ∙ number_of_entry kind v y (In-from_filter (λ (z : Entry). covers z.span t) (entries_of kind v) y n).0 in
          let p = applying_there here id e w a in
          let q = applying_there there id g v b in
          let same : w ≡ v = same_write w v p.0 q.0 same_number in
          let g_is_e : g ≡ e = sym q.1 ∙ ap (λ (z : Written). z.event.id) (sym same) ∙ p.1 in
          other v (subst (λ (z : List ℕ). applying there id z ≡ Some v) g_is_e b) same_number

  pub only_here : (e : List ℕ) (w : Written) → applying here id e ≡ Some w
      → ((v : Written) → applying there id e ≡ Some v → w.written ≡ v.written → ⊥)
      → list_any (λ x. covers x.span t) (entries_of kind w) ≡ true
      → (rank : Rank) × In rank (ranks here id kind t) × (In rank (ranks there id kind t) → ⊥)
  only_here e w a other h =
      let x = passing_in (λ (y : Entry). covers y.span t) (entries_of kind w) h in (
        x.0.rank,
        is_candidate e w x.0 a (In-filter (λ (y : Entry). covers y.span t) (entries_of kind w) x.0 x.1 x.2),
        is_no_candidate e w x.0.rank a (number_of_entry kind w x.0 x.1) other,
      )

-- ---- a window

module _ (old new : Book) (id : List ℕ) (kind : PayloadType) (t : ℤ)
    (d : IsDistinct bytes_eq (event_ids old)) (f : IsDistinct bytes_eq (event_ids new)) (s : Succeeds old new) where
  of_old : (r e : List ℕ) (w : Written) → applying old r e ≡ Some w → ((v : Written) → applying new r e ≡ Some v → w.written ≡ v.written → ⊥)
      → list_any (is_window_at id kind t) (touches_of r w) ≡ true → Disturbed old new id kind t
  of_old r e w a other h =
      let p = and_parts (bytes_eq id r) (list_any (λ x. covers x.span t) (entries_of kind w)) (sym (event_touches id r kind t w) ∙ h) in
      let found = only_here old new r kind t d f s.same_write e w a other p.1 in
      subst (λ (z : List ℕ). Disturbed old new z kind t) (sym (same_bytes id r p.0))
      (λ same. found.2 (In-from_Contains (ranks new r kind t) found.0 ((same found.0).0 (Contains-from_In (ranks old r kind t) found.0 found.1))))

  of_new : (r e : List ℕ) (v : Written) → applying new r e ≡ Some v → ((w : Written) → applying old r e ≡ Some w → v.written ≡ w.written → ⊥)
      → list_any (is_window_at id kind t) (touches_of r v) ≡ true → Disturbed old new id kind t
  of_new r e v a other h =
      let p = and_parts (bytes_eq id r) (list_any (λ x. covers x.span t) (entries_of kind v)) (sym (event_touches id r kind t v) ∙ h) in
      let found = only_here new old r kind t f d (λ x y m n q. sym (s.same_write y x n m (sym q))) e v a other p.1 in
      subst (λ (z : List ℕ). Disturbed old new z kind t) (sym (same_bytes id r p.0))
      (λ same. found.2 (In-from_Contains (ranks old r kind t) found.0 ((same found.0).1 (Contains-from_In (ranks new r kind t) found.0 found.1))))

  between : (r e : List ℕ) (a b : Option Written) → applying old r e ≡ a → applying new r e ≡ b
      → list_any (is_window_at id kind t) (touches_between r a b) ≡ true → Disturbed old new id kind t
  between r e None None x y h = absurd (false≢true h)
  between r e None (Some v) x y h = of_new r e v y (λ w q n. absurd (let z : None ≡ Some w = sym x ∙ q in cc)) h
  between r e (Some w) None x y h = of_old r e w x (λ v q n. absurd (let z : None ≡ Some v = sym y ∙ q in cc)) h
  between r e (Some w) (Some v) x y h = by (w.written == v.written) refl h
    where
      side : w.written ≢ v.written → (list_any (is_window_at id kind t) (touches_of r w) ≡ true) ⊎ (list_any (is_window_at id kind t) (touches_of r v) ≡ true)
          → Disturbed old new id kind t
      side apart (inl a) = of_old r e w x (λ u q n. let z : Some v ≡ Some u = sym y ∙ q in let k : v ≡ u = cc in apart (n ∙ ap (λ (o : Written). o.written) (sym k))) a
      side apart (inr b) = of_new r e v y (λ u q n. let z : Some w ≡ Some u = sym x ∙ q in let k : w ≡ u = cc in apart (ap (λ (o : Written). o.written) k ∙ sym n)) b

      by : (b : Bool) → (w.written == v.written) ≡ b → list_any (is_window_at id kind t) (if b then [] else (touches_of r w ++ touches_of r v)) ≡ true → Disturbed old new id kind t
      by true q n = absurd (false≢true n)
      by false q n =
          side (eqb-false w.written v.written q)
          (or_cases (list_any (is_window_at id kind t) (touches_of r w)) (list_any (is_window_at id kind t) (touches_of r v))
          (sym (list_any-append (is_window_at id kind t) (touches_of r w) (touches_of r v)) ∙ n))

  pub disturbed : is_touched old new id kind t ≡ true → Disturbed old new id kind t
  unfolding touches
  disturbed h =
      let r = part_with_one (is_window_at id kind t)
      (λ r. flat_map (λ e. touches_between r (applying old r e) (applying new r e)) (ids_of_both (event_ids old) (event_ids new)))
      (ids_of_both (map (λ r. r.id) old.resources) (map (λ r. r.id) new.resources)) h in
      let e = part_with_one (is_window_at id kind t) (λ v. touches_between r.0 (applying old r.0 v) (applying new r.0 v)) (ids_of_both (event_ids old) (event_ids new)) r.2 in
      between r.0 e.0 (applying old r.0 e.0) (applying new r.0 e.0) refl refl e.2
