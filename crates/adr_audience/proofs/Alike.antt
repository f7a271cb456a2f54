-- Resources that offer the same of what events ask for: the same events apply to them.
use Rattle.std.proofs.Common.{◌≡◌, ℕ, ◌&&◌, ◌||◌, ◌++◌, ◌∷◌, [], Bool, true, false, cond, List, Option, Some, None, map, flat_map, option_to_list, refl, ap, sym, ◌∙◌, inl, inr, bytes_eq}
use Rattle.std.proofs.lemmas.Bool.{false≢true, or_left, or_right, and_parts}
use Rattle.std.proofs.lemmas.List.Folds.{list_any-append}
use Rattle.std.proofs.lemmas.Slice.Eq.{bytes_eq-Decides}
use Rattle.std.specs.List.{list_any, list_all}
use Rattle.std.specs.Option.{option_map_or}
use Rattle.adr_value.specs.declared.datum.Datum.{Datum}
use Rattle.adr_object.specs.declared.event.Event.{Event}
use Rattle.adr_object.specs.declared.event.Target.{Target}
use Rattle.adr_object.specs.declared.party.Program.{Program}
use Rattle.adr_object.specs.declared.party.Ven.{Ven}
use Rattle.adr_object.specs.declared.party.Resource.{Resource}
use Rattle.adr_model.specs.declared.written.Written.{Written}
use Rattle.adr_model.specs.Book.{Book, program_by}
use Rattle.adr_model.specs.Matching.{applies}
use Rattle.adr_model.specs.Lists.{In}
use Rattle.adr_model.proofs.Lists.{list_any-filter, filter-same}
use Rattle.adr_keys.specs.declared.key.Key.{Key}
use Rattle.adr_keys.specs.declared.key.Key.TheVariants.{Anyone}
use Rattle.adr_keys.specs.Key.{same_key, same_key_true, same_key_self}
use Rattle.adr_keys.specs.Rows.{offers_key, is_key_of}
use Rattle.adr_audience.specs.Offers.{offers, asked_key}
use Rattle.adr_audience.specs.Query.{is_fixed, is_called, is_offered, meets_value, meets_type, meets, is_for}
use Rattle.adr_audience.specs.Asks.{asked_by_target, asked_by, asks_no_key, asks, asked_in, asks_of, asked_keys, applies_with}
use Rattle.adr_audience.specs.Laws.{EventsFollowAsked}
use Rattle.adr_audience.proofs.Shared.{any-flat}
use Rattle.adr_audience.proofs.Matched.{rows_match}

-- ---- tests that agree on the elements of a list

any-same : {X : Type 0} (f g : X → Bool) (xs : List X) → ((x : X) → In x xs → f x ≡ g x) → list_any f xs ≡ list_any g xs
any-same f g [] h = refl
any-same f g (x ∷ xs) h = ap (λ b. b || list_any f xs) (h x (inl refl)) ∙ ap (λ b. g x || b) (any-same f g xs (λ y i. h y (inr i)))

all-same : {X : Type 0} (f g : X → Bool) (xs : List X) → ((x : X) → In x xs → f x ≡ g x) → list_all f xs ≡ list_all g xs
all-same f g [] h = refl
all-same f g (x ∷ xs) h = ap (λ b. b && list_all f xs) (h x (inl refl)) ∙ ap (λ b. g x && b) (all-same f g xs (λ y i. h y (inr i)))

-- ---- an event looks only at the keys that it asks for

module _ (event : Event) (program : Program) (f g : Key → Bool) where
  module _ (targets : List Target) (alike : (k : Key) → offers_key (asked_by targets) k ≡ true → f k ≡ g k) where
    key_there : (u : Target) (x : Datum) (k : Key) → In u targets → In x u.values → is_fixed u.kind ≡ false → asked_key u.kind x ≡ Some k → offers_key (asked_by targets) k ≡ true
    key_there u x k i j free is =
        any-flat (same_key k) asked_by_target targets u i (
        ap (λ b. list_any (same_key k) (cond b [] (flat_map (λ v. option_to_list (asked_key u.kind v)) u.values))) free
        ∙ any-flat (same_key k) (λ v. option_to_list (asked_key u.kind v)) u.values x j (
        ap (λ o. list_any (same_key k) (option_to_list o)) is ∙ ap (λ b. b || false) (same_key_self k)))

    value_alike : (u : Target) (x : Datum) → In u targets → In x u.values → meets_value event program f u.kind x ≡ meets_value event program g u.kind x
    value_alike u x i j = by (is_fixed u.kind) refl
      where
        offered : is_fixed u.kind ≡ false → (o : Option Key) → asked_key u.kind x ≡ o → option_map_or f o false ≡ option_map_or g o false
        offered free None e = refl
        offered free (Some k) e = alike k (key_there u x k i j free e)

        by : (b : Bool) → is_fixed u.kind ≡ b → cond b (is_called event program u.kind) (is_offered f u.kind) x ≡ cond b (is_called event program u.kind) (is_offered g u.kind) x
        by true e = refl
        by false e = offered e (asked_key u.kind x) refl

    map_alike : (kind : List ℕ) (u : Target) → In u targets
        → (bytes_eq u.kind kind && list_any (meets_value event program f kind) u.values) ≡ (bytes_eq u.kind kind && list_any (meets_value event program g kind) u.values)
    map_alike kind u i = by (bytes_eq u.kind kind) refl
      where
        by : (b : Bool) → bytes_eq u.kind kind ≡ b → (b && list_any (meets_value event program f kind) u.values) ≡ (b && list_any (meets_value event program g kind) u.values)
        by true e =
            let same : u.kind ≡ kind = (bytes_eq-Decides u.kind kind).0 e in
            ap (λ k. list_any (meets_value event program f k) u.values) (sym same)
            ∙ any-same (meets_value event program f u.kind) (meets_value event program g u.kind) u.values (λ x j. value_alike u x i j)
            ∙ ap (λ k. list_any (meets_value event program g k) u.values) same
        by false e = refl

    list_alike : meets (meets_value event program f) targets ≡ meets (meets_value event program g) targets
    list_alike = all-same (λ t. meets_type (meets_value event program f) targets t.kind) (λ t. meets_type (meets_value event program g) targets t.kind) targets (λ t j.
        any-same (λ u. bytes_eq u.kind t.kind && list_any (meets_value event program f t.kind) u.values) (λ u. bytes_eq u.kind t.kind && list_any (meets_value event program g t.kind) u.values) targets (map_alike t.kind))

  is_for_alike : ((k : Key) → offers_key (asked_by event.targets ++ asked_by program.targets) k ≡ true → f k ≡ g k) → is_for event program f ≡ is_for event program g
  is_for_alike h =
      ap (λ b. b && meets (meets_value event program f) program.targets) (list_alike event.targets (λ k o.
      h k (list_any-append (same_key k) (asked_by event.targets) (asked_by program.targets) ∙ or_left (offers_key (asked_by event.targets) k) (offers_key (asked_by program.targets) k) o)))
      ∙ ap (λ b. meets (meets_value event program g) event.targets && b) (list_alike program.targets (λ k o.
      h k (list_any-append (same_key k) (asked_by event.targets) (asked_by program.targets) ∙ or_right (offers_key (asked_by event.targets) k) (offers_key (asked_by program.targets) k) o)))

-- ---- the keys that some row asks for

-- of a key that is asked for no row loses anything
asked_kept : (asks : List (List Key)) (row : List Key) (k : Key) → is_key_of asks k ≡ true → offers_key (asked_keys asks row) k ≡ offers_key row k
asked_kept asks row k h = list_any-filter (same_key k) (is_key_of asks) row (λ x out. by x out (same_key k x) refl)
  where
    by : (x : Key) → is_key_of asks x ≡ false → (b : Bool) → same_key k x ≡ b → b ≡ false
    by x out true e = absurd (false≢true (sym out ∙ ap (is_key_of asks) (sym (same_key_true k x e)) ∙ h))
    by x out false e = refl

no_key : (targets : List Target) → asks_no_key targets ≡ true → asked_by targets ≡ []
no_key [] h = refl
no_key (t ∷ ts) h =
    let p = and_parts _ _ h in
    ap (λ b. cond b [] (flat_map (λ v. option_to_list (asked_key t.kind v)) t.values) ++ asked_by ts) p.0 ∙ no_key ts p.1

-- an event asks for each key of its targets and of its program's
in_asks : (event : Event) (program : Program) (k : Key) → offers_key (asked_by event.targets ++ asked_by program.targets) k ≡ true → offers_key (asks event program) k ≡ true
in_asks event program k h = by (asks_no_key event.targets) (asks_no_key program.targets) refl refl
  where
    by : (a b : Bool) → asks_no_key event.targets ≡ a → asks_no_key program.targets ≡ b
        → offers_key (cond (a && b) (Anyone ∷ []) (asked_by event.targets ++ asked_by program.targets)) k ≡ true
    by true true d e = absurd (false≢true (sym (ap (λ xs. offers_key (xs ++ asked_by program.targets) k) (no_key event.targets d) ∙ ap (λ xs. offers_key xs k) (no_key program.targets e)) ∙ h))
    by true false d e = h
    by false b d e = h

module _ (book : Book) where
  asked_of : (ws : List Written) (w : Written) (k : Key) → In w ws → offers_key (asked_in book w.event) k ≡ true → is_key_of (map (λ w. asked_in book w.event) ws) k ≡ true
  asked_of [] w k i h = absurd i
  asked_of (x ∷ xs) w k (inl e) h = or_left (offers_key (asked_in book x.event) k) (is_key_of (map (λ w. asked_in book w.event) xs) k) (ap (λ (z : Written). offers_key (asked_in book z.event) k) e ∙ h)
  asked_of (x ∷ xs) w k (inr i) h = or_right (offers_key (asked_in book x.event) k) (is_key_of (map (λ w. asked_in book w.event) xs) k) (asked_of xs w k i h)

  module _ (r s : Resource) (v u : Ven) (same : asked_keys (asks_of book) (offers r v) ≡ asked_keys (asks_of book) (offers s u)) where
    key_alike : (k : Key) → is_key_of (asks_of book) k ≡ true → offers_key (offers r v) k ≡ offers_key (offers s u) k
    key_alike k h = sym (asked_kept (asks_of book) (offers r v) k h) ∙ ap (λ keys. offers_key keys k) same ∙ asked_kept (asks_of book) (offers s u) k h

    event_alike : (w : Written) → In w book.events → applies_with book r v w.event ≡ applies_with book s u w.event
    event_alike w i = by (program_by book w.event.program_id) refl
      where
        by : (o : Option Program) → program_by book w.event.program_id ≡ o
            → option_map_or (λ p. applies (record { program = p; event = w.event; ven = v; resource = r })) o false ≡ option_map_or (λ p. applies (record { program = p; event = w.event; ven = u; resource = s })) o false
        by None e = refl
        by (Some p) e =
            sym (rows_match w.event p v r)
            ∙ is_for_alike w.event p (offers_key (offers r v)) (offers_key (offers s u)) (λ k h.
            key_alike k (asked_of book.events w k i (ap (λ o. offers_key (option_map_or (asks w.event) o []) k) e ∙ in_asks w.event p k h)))
            ∙ rows_match w.event p u s

pub events_follow_asked : EventsFollowAsked
events_follow_asked book r s v u same = filter-same (λ w. applies_with book r v w.event) (λ w. applies_with book s u w.event) book.events (event_alike book r s v u same)
