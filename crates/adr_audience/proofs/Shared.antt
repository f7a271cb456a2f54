-- An event that applies to a resource asks for something that the resource offers.
use Rattle.std.proofs.Common.{◌≡◌, ◌&&◌, ◌||◌, ◌++◌, ◌∷◌, [], Bool, true, false, cond, List, Option, Some, None, flat_map, option_to_list, refl, ap, sym, ◌∙◌, inl, inr, bytes_eq}
use Rattle.std.proofs.lemmas.Bool.{false≢true, and_parts, or_left, or_right}
use Rattle.std.proofs.lemmas.List.Folds.{list_any-append}
use Rattle.std.proofs.lemmas.Slice.Eq.{bytes_eq-Decides}
use Rattle.std.specs.List.{list_any, list_all}
use Rattle.std.specs.Option.{option_map_or}
use Rattle.adr_value.specs.declared.datum.Datum.{Datum}
use Rattle.adr_object.specs.declared.event.Event.{Event}
use Rattle.adr_object.specs.declared.event.Target.{Target}
use Rattle.adr_object.specs.declared.party.Program.{Program}
use Rattle.adr_object.specs.declared.party.Ven.{Ven}
use Rattle.adr_object.specs.declared.party.Resource.{Resource}
use Rattle.adr_model.specs.Book.{Book, program_by}
use Rattle.adr_model.specs.Matching.{applies}
use Rattle.adr_model.specs.Lists.{In}
use Rattle.adr_keys.specs.declared.key.Key.{Key}
use Rattle.adr_keys.specs.declared.key.Key.TheVariants.{Anyone}
use Rattle.adr_keys.specs.Key.{same_key, same_key_flip}
use Rattle.adr_keys.specs.Rows.{offers_key}
use Rattle.adr_audience.specs.Offers.{offers, asked_key}
use Rattle.adr_audience.specs.Query.{is_fixed, is_called, is_offered, meets_value, meets_type, meets, is_for}
use Rattle.adr_audience.specs.Asks.{asked_by_target, asked_by, asks_no_key, asks, asked_in, shares, applies_with}
use Rattle.adr_audience.proofs.Queried.{or_false}
use Rattle.adr_audience.proofs.Matched.{rows_match}

-- ---- members of lists

any-with : {X G : Type 0} (f : X → Bool) (xs : List X) → list_any f xs ≡ true → ((x : X) → In x xs → f x ≡ true → G) → G
any-with f [] h k = absurd (false≢true h)
any-with {X} {G} f (x ∷ xs) h k = by (f x) refl h (λ q. any-with f xs q (λ y i. k y (inr i)))
  where
    by : (b : Bool) → f x ≡ b → (b || list_any f xs) ≡ true → (list_any f xs ≡ true → G) → G
    by true e q rest = k x (inl refl) e
    by false e q rest = rest q

pub in-any : {X : Type 0} (f : X → Bool) (x : X) (xs : List X) → In x xs → f x ≡ true → list_any f xs ≡ true
in-any f x [] i h = absurd i
in-any f x (y ∷ ys) (inl e) h = or_left (f y) (list_any f ys) (ap f e ∙ h)
in-any f x (y ∷ ys) (inr i) h = or_right (f y) (list_any f ys) (in-any f x ys i h)

all-in : {X : Type 0} (f : X → Bool) (x : X) (xs : List X) → In x xs → list_all f xs ≡ true → f x ≡ true
all-in f x [] i h = absurd i
all-in f x (y ∷ ys) (inl e) h = ap f (sym e) ∙ (and_parts _ _ h).0
all-in f x (y ∷ ys) (inr i) h = all-in f x ys i (and_parts _ _ h).1

not_all-with : {X G : Type 0} (f : X → Bool) (xs : List X) → list_all f xs ≡ false → ((x : X) → In x xs → f x ≡ false → G) → G
not_all-with f [] h k = absurd (false≢true (sym h))
not_all-with {X} {G} f (x ∷ xs) h k = by (f x) refl h (λ q. not_all-with f xs q (λ y i. k y (inr i)))
  where
    by : (b : Bool) → f x ≡ b → (b && list_all f xs) ≡ false → (list_all f xs ≡ false → G) → G
    by true e q rest = rest q
    by false e q rest = k x (inl refl) e

pub any-flat : {X Y : Type 0} (f : Y → Bool) (g : X → List Y) (xs : List X) (x : X) → In x xs → list_any f (g x) ≡ true → list_any f (flat_map g xs) ≡ true
any-flat f g [] x i h = absurd i
any-flat f g (y ∷ ys) x (inl e) h = list_any-append f (g y) (flat_map g ys) ∙ or_left (list_any f (g y)) (list_any f (flat_map g ys)) (ap (λ z. list_any f (g z)) e ∙ h)
any-flat f g (y ∷ ys) x (inr i) h = list_any-append f (g y) (flat_map g ys) ∙ or_right (list_any f (g y)) (list_any f (flat_map g ys)) (any-flat f g ys x i h)

any-options : (f : Key → Bool) (h : Datum → Option Key) (vs : List Datum) → list_any f (flat_map (λ v. option_to_list (h v)) vs) ≡ list_any (λ v. option_map_or f (h v) false) vs
any-options f h [] = refl
any-options f h (v ∷ vs) =
    list_any-append f (option_to_list (h v)) (flat_map (λ x. option_to_list (h x)) vs)
    ∙ ap (λ b. b || list_any f (flat_map (λ x. option_to_list (h x)) vs)) (one (h v))
    ∙ ap (λ b. option_map_or f (h v) false || b) (any-options f h vs)
  where
    one : (o : Option Key) → list_any f (option_to_list o) ≡ option_map_or f o false
    one (Some k) = or_false (f k)
    one None = refl

-- two rows that share a key do so both ways
any-shared : (row asked : List Key) → list_any (offers_key row) asked ≡ true → shares asked row ≡ true
any-shared row asked h =
    any-with (offers_key row) asked h (λ k i o.
    any-with (same_key k) row o (λ j m s.
    in-any (offers_key asked) j row m (in-any (same_key j) k asked i (same_key_flip j k ∙ s))))

-- ---- an event and a resource

module _ (event : Event) (program : Program) (row : List Key) where
  -- a list that is met and asks for a key asks for one that is offered
  asked-list : (targets : List Target) → meets (meets_value event program (offers_key row)) targets ≡ true → asks_no_key targets ≡ false → list_any (offers_key row) (asked_by targets) ≡ true
  asked-list targets met some =
      not_all-with (λ t. is_fixed t.kind) targets some (λ t i free.
      any-with (λ u. bytes_eq u.kind t.kind && list_any (meets_value event program (offers_key row) t.kind) u.values) targets (all-in (λ x. meets_type (meets_value event program (offers_key row)) targets x.kind) t targets i met) (λ u j both.
      let q = and_parts _ _ both in
      let same : u.kind ≡ t.kind = (bytes_eq-Decides u.kind t.kind).0 q.0 in
      any-flat (offers_key row) asked_by_target targets u j (
      ap (λ b. list_any (offers_key row) (cond b [] (flat_map (λ v. option_to_list (asked_key u.kind v)) u.values))) (ap is_fixed same ∙ free)
      ∙ any-options (offers_key row) (asked_key u.kind) u.values
      ∙ ap (λ k. list_any (is_offered (offers_key row) k) u.values) same
      ∙ sym (ap (λ b. list_any (cond b (is_called event program t.kind) (is_offered (offers_key row) t.kind)) u.values) free) ∙ q.1)))

  pub asked-one : is_for event program (offers_key row) ≡ true → shares (asks event program) (Anyone ∷ row) ≡ true
  asked-one h = by (asks_no_key event.targets) (asks_no_key program.targets) refl refl (and_parts _ _ h)
    where
      found : list_any (offers_key row) (asked_by event.targets ++ asked_by program.targets) ≡ true → shares (asked_by event.targets ++ asked_by program.targets) (Anyone ∷ row) ≡ true
      found f = or_right (offers_key (asked_by event.targets ++ asked_by program.targets) Anyone) (shares (asked_by event.targets ++ asked_by program.targets) row) (any-shared row (asked_by event.targets ++ asked_by program.targets) f)

      by : (a b : Bool) → asks_no_key event.targets ≡ a → asks_no_key program.targets ≡ b
          → ((meets (meets_value event program (offers_key row)) event.targets ≡ true) × (meets (meets_value event program (offers_key row)) program.targets ≡ true))
          → shares (cond (asks_no_key event.targets && asks_no_key program.targets) (Anyone ∷ []) (asked_by event.targets ++ asked_by program.targets)) (Anyone ∷ row) ≡ true
      by true true d e m =
          ap (λ x. shares (cond (x && asks_no_key program.targets) (Anyone ∷ []) (asked_by event.targets ++ asked_by program.targets)) (Anyone ∷ row)) d
          ∙ ap (λ x. shares (cond x (Anyone ∷ []) (asked_by event.targets ++ asked_by program.targets)) (Anyone ∷ row)) e
      by true false d e m =
          ap (λ x. shares (cond (x && asks_no_key program.targets) (Anyone ∷ []) (asked_by event.targets ++ asked_by program.targets)) (Anyone ∷ row)) d
          ∙ ap (λ x. shares (cond x (Anyone ∷ []) (asked_by event.targets ++ asked_by program.targets)) (Anyone ∷ row)) e
          ∙ found (list_any-append (offers_key row) (asked_by event.targets) (asked_by program.targets) ∙ or_right (list_any (offers_key row) (asked_by event.targets)) (list_any (offers_key row) (asked_by program.targets)) (asked-list program.targets m.1 e))
      by false b d e m =
          ap (λ x. shares (cond (x && asks_no_key program.targets) (Anyone ∷ []) (asked_by event.targets ++ asked_by program.targets)) (Anyone ∷ row)) d
          ∙ found (list_any-append (offers_key row) (asked_by event.targets) (asked_by program.targets) ∙ or_left (list_any (offers_key row) (asked_by event.targets)) (list_any (offers_key row) (asked_by program.targets)) (asked-list event.targets m.0 d))

-- ---- the events of a book

module _ (book : Book) (r : Resource) (v : Ven) where
  pub one : (e : Event) → applies_with book r v e ≡ true → shares (asked_in book e) (Anyone ∷ offers r v) ≡ true
  one e h = by (program_by book e.program_id) h
    where
      by : (o : Option Program) → option_map_or (λ program. applies (record { program = program; event = e; ven = v; resource = r })) o false ≡ true → shares (option_map_or (asks e) o []) (Anyone ∷ offers r v) ≡ true
      by None q = absurd (false≢true q)
      by (Some p) q = asked-one e p (offers r v) (rows_match e p v r ∙ q)
