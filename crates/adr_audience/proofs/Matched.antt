-- Keys against scenes: what a resource offers is what targets are held against.
use Rattle.std.proofs.Common.{◌≡◌, ℕ, ◌&&◌, ◌||◌, ◌∷◌, [], Bool, true, false, cond, List, Some, map, codes, refl, ap, sym, ◌∙◌, bytes_eq}
use Rattle.std.proofs.lemmas.List.Folds.{list_any-append}
use Rattle.std.proofs.lemmas.Slice.Eq.{bytes_eq-Decides}
use Rattle.std.specs.List.{list_any, list_all}
use Rattle.std.specs.Option.{option_map_or}
use Rattle.adr_value.specs.Same.{same_datum}
use Rattle.adr_value.specs.declared.datum.Datum.{Datum}
use Rattle.adr_value.specs.declared.datum.Datum.TheVariants.{Number, Text, Truth, Point}
use Rattle.adr_object.specs.declared.event.Event.{Event}
use Rattle.adr_object.specs.declared.event.Target.{Target}
use Rattle.adr_object.specs.declared.party.Program.{Program}
use Rattle.adr_object.specs.declared.party.Ven.{Ven as OneVen}
use Rattle.adr_object.specs.declared.party.Resource.{Resource as OneResource}
use Rattle.adr_model.specs.Matching.{Scene, is_name, has_value, is_event_name, is_matched, matches, applies}
use Rattle.adr_keys.specs.declared.key.Key.{Key}
use Rattle.adr_keys.specs.declared.key.Key.TheVariants.{Resource, Ven, Value}
use Rattle.adr_keys.specs.Key.{same_key}
use Rattle.adr_keys.specs.Rows.{offers_key}
use Rattle.adr_audience.specs.Offers.{is_word, keys_of_target, keys_of, offers, named_key}
use Rattle.adr_audience.specs.Query.{is_called, is_offered, meets_value, meets, is_for}
use Rattle.adr_audience.specs.Laws.{RowsMatchAsScenes}

-- ---- names

no_resource-map : (a kind : List ℕ) (vs : List Datum) → list_any (same_key (Resource a)) (map (λ v. Value kind v) vs) ≡ false
no_resource-map a kind [] = refl
no_resource-map a kind (v ∷ vs) = no_resource-map a kind vs

no_ven-map : (a kind : List ℕ) (vs : List Datum) → list_any (same_key (Ven a)) (map (λ v. Value kind v) vs) ≡ false
no_ven-map a kind [] = refl
no_ven-map a kind (v ∷ vs) = no_ven-map a kind vs

-- a key that no map has is in no list of targets
none_in : (k : Key) → ((kind : List ℕ) (vs : List Datum) → list_any (same_key k) (map (λ v. Value kind v) vs) ≡ false) → (ts : List Target) → list_any (same_key k) (keys_of ts) ≡ false
none_in k f [] = refl
none_in k f (t ∷ ts) = list_any-append (same_key k) (keys_of_target t) (keys_of ts) ∙ ap (λ b. b || list_any (same_key k) (keys_of ts)) (by (is_word t.kind)) ∙ none_in k f ts
  where
    by : (b : Bool) → list_any (same_key k) (cond b [] (map (λ v. Value t.kind v) t.values)) ≡ false
    by true = refl
    by false = f t.kind t.values

module _ (r : OneResource) (v : OneVen) where
  none_of_both : (k : Key) → ((kind : List ℕ) (vs : List Datum) → list_any (same_key k) (map (λ x. Value kind x) vs) ≡ false)
      → (list_any (same_key k) (keys_of r.targets) || list_any (same_key k) (keys_of v.targets)) ≡ false
  none_of_both k f = ap (λ b. b || list_any (same_key k) (keys_of v.targets)) (none_in k f r.targets) ∙ none_in k f v.targets

  resource_named : (a : List ℕ) → offers_key (offers r v) (Resource a) ≡ bytes_eq a r.resource_name
  resource_named a =
      list_any-append (same_key (Resource a)) (Resource r.resource_name ∷ Ven v.ven_name ∷ keys_of r.targets) (keys_of v.targets)
      ∙ by (bytes_eq a r.resource_name)
    where
      by : (b : Bool) → ((b || (false || list_any (same_key (Resource a)) (keys_of r.targets))) || list_any (same_key (Resource a)) (keys_of v.targets)) ≡ b
      by true = refl
      by false = none_of_both (Resource a) (no_resource-map a)

  pub ven_named : (a : List ℕ) → offers_key (offers r v) (Ven a) ≡ bytes_eq a v.ven_name
  ven_named a =
      list_any-append (same_key (Ven a)) (Resource r.resource_name ∷ Ven v.ven_name ∷ keys_of r.targets) (keys_of v.targets)
      ∙ by (bytes_eq a v.ven_name)
    where
      by : (b : Bool) → ((false || (b || list_any (same_key (Ven a)) (keys_of r.targets))) || list_any (same_key (Ven a)) (keys_of v.targets)) ≡ b
      by true = refl
      by false = none_of_both (Ven a) (no_ven-map a)

-- ---- values

pub bytes_eq-flip : (a b : List ℕ) → bytes_eq a b ≡ bytes_eq b a
bytes_eq-flip a b = by (bytes_eq a b) (bytes_eq b a) refl refl
  where
    by : (p q : Bool) → bytes_eq a b ≡ p → bytes_eq b a ≡ q → p ≡ q
    by true true e f = refl
    by false false e f = refl
    by true false e f = sym ((bytes_eq-Decides b a).1 (sym ((bytes_eq-Decides a b).0 e))) ∙ f
    by false true e f = sym e ∙ (bytes_eq-Decides a b).1 (sym ((bytes_eq-Decides b a).0 f))

value_in_map : (kind other : List ℕ) (x : Datum) (vs : List Datum) → list_any (same_key (Value kind x)) (map (λ v. Value other v) vs) ≡ (bytes_eq kind other && list_any (same_datum x) vs)
value_in_map kind other x vs = by (bytes_eq kind other) refl
  where
    yes : (us : List Datum) → bytes_eq kind other ≡ true → list_any (same_key (Value kind x)) (map (λ v. Value other v) us) ≡ list_any (same_datum x) us
    yes [] e = refl
    yes (u ∷ us) e = ap (λ b. (b && same_datum x u) || list_any (same_key (Value kind x)) (map (λ v. Value other v) us)) e ∙ ap (λ b. same_datum x u || b) (yes us e)

    no : (us : List Datum) → bytes_eq kind other ≡ false → list_any (same_key (Value kind x)) (map (λ v. Value other v) us) ≡ false
    no [] e = refl
    no (u ∷ us) e = ap (λ b. (b && same_datum x u) || list_any (same_key (Value kind x)) (map (λ v. Value other v) us)) e ∙ no us e

    by : (b : Bool) → bytes_eq kind other ≡ b → list_any (same_key (Value kind x)) (map (λ v. Value other v) vs) ≡ (b && list_any (same_datum x) vs)
    by true e = yes vs e
    by false e = no vs e

value_in_target : (kind : List ℕ) (x : Datum) (t : Target) → is_word kind ≡ false → list_any (same_key (Value kind x)) (keys_of_target t) ≡ (bytes_eq t.kind kind && list_any (same_datum x) t.values)
value_in_target kind x t out = by (is_word t.kind) refl
  where
    apart : is_word t.kind ≡ true → (b : Bool) → bytes_eq t.kind kind ≡ b → false ≡ (b && list_any (same_datum x) t.values)
    apart w true e = absurd (cc (sym w ∙ ap is_word ((bytes_eq-Decides t.kind kind).0 e) ∙ out))
    apart w false e = refl

    by : (b : Bool) → is_word t.kind ≡ b → list_any (same_key (Value kind x)) (cond b [] (map (λ v. Value t.kind v) t.values)) ≡ (bytes_eq t.kind kind && list_any (same_datum x) t.values)
    by true w = apart w (bytes_eq t.kind kind) refl
    by false w = value_in_map kind t.kind x t.values ∙ ap (λ b. b && list_any (same_datum x) t.values) (bytes_eq-flip kind t.kind)

value_in : (kind : List ℕ) (x : Datum) (ts : List Target) → is_word kind ≡ false → list_any (same_key (Value kind x)) (keys_of ts) ≡ has_value ts kind x
value_in kind x [] out = refl
value_in kind x (t ∷ ts) out =
    list_any-append (same_key (Value kind x)) (keys_of_target t) (keys_of ts)
    ∙ ap (λ b. b || list_any (same_key (Value kind x)) (keys_of ts)) (value_in_target kind x t out)
    ∙ ap (λ b. (bytes_eq t.kind kind && list_any (same_datum x) t.values) || b) (value_in kind x ts out)

-- ---- one value

module _ (event : Event) (program : Program) (v : OneVen) (r : OneResource) where
  abbrev scene : Scene
  scene = record { program = program; event = event; ven = v; resource = r }

  abbrev row : List Key
  row = offers r v

  asked_resource : (x : Datum) → is_name x r.resource_name ≡ is_offered (offers_key row) (codes "RESOURCE_NAME") x
  asked_resource (Text a) = sym (resource_named r v a)
  asked_resource (Number n) = refl
  asked_resource (Truth true) = refl
  asked_resource (Truth false) = refl
  asked_resource (Point a b) = refl

  asked_ven : (x : Datum) → is_name x v.ven_name ≡ is_offered (offers_key row) (codes "VEN_NAME") x
  asked_ven (Text a) = sym (ven_named r v a)
  asked_ven (Number n) = refl
  asked_ven (Truth true) = refl
  asked_ven (Truth false) = refl
  asked_ven (Point a b) = refl

  asked_value : (kind : List ℕ) (x : Datum) → is_word kind ≡ false → (has_value r.targets kind x || has_value v.targets kind x) ≡ offers_key row (Value kind x)
  asked_value kind x out =
      ap (λ b. b || has_value v.targets kind x) (sym (value_in kind x r.targets out))
      ∙ ap (λ b. list_any (same_key (Value kind x)) (keys_of r.targets) || b) (sym (value_in kind x v.targets out))
      ∙ sym (list_any-append (same_key (Value kind x)) (Resource r.resource_name ∷ Ven v.ven_name ∷ keys_of r.targets) (keys_of v.targets))

  -- what a value is held against, once it is known which of the four words its type is
  abbrev left : List ℕ → Datum → Bool → Bool → Bool → Bool → Bool
  left kind x a b c d = cond a (is_name x r.resource_name) (cond b (is_name x v.ven_name) (cond c (is_event_name x event.event_name) (cond d (is_name x program.program_name) (has_value r.targets kind x || has_value v.targets kind x))))

  is_matched-meets : (kind : List ℕ) (x : Datum) → is_matched scene kind x ≡ meets_value event program (offers_key row) kind x
  is_matched-meets kind x = by (bytes_eq kind (codes "RESOURCE_NAME")) (bytes_eq kind (codes "VEN_NAME")) (bytes_eq kind (codes "EVENT_NAME")) (bytes_eq kind (codes "PROGRAM_NAME")) refl refl refl refl
    where
      is : (w : List ℕ) → bytes_eq kind w ≡ true → kind ≡ w
      is w e = (bytes_eq-Decides kind w).0 e

      by : (a b c d : Bool) → bytes_eq kind (codes "RESOURCE_NAME") ≡ a → bytes_eq kind (codes "VEN_NAME") ≡ b → bytes_eq kind (codes "EVENT_NAME") ≡ c → bytes_eq kind (codes "PROGRAM_NAME") ≡ d
          → is_matched scene kind x ≡ meets_value event program (offers_key row) kind x
      by true b c d p q s t = ap (λ k. is_matched scene k x) (is (codes "RESOURCE_NAME") p) ∙ asked_resource x ∙ sym (ap (λ k. meets_value event program (offers_key row) k x) (is (codes "RESOURCE_NAME") p))
      by false true c d p q s t = ap (λ k. is_matched scene k x) (is (codes "VEN_NAME") q) ∙ asked_ven x ∙ sym (ap (λ k. meets_value event program (offers_key row) k x) (is (codes "VEN_NAME") q))
      by false false true d p q s t = ap (λ k. is_matched scene k x) (is (codes "EVENT_NAME") s) ∙ sym (ap (λ k. meets_value event program (offers_key row) k x) (is (codes "EVENT_NAME") s))
      by false false false true p q s t = ap (λ k. is_matched scene k x) (is (codes "PROGRAM_NAME") t) ∙ sym (ap (λ k. meets_value event program (offers_key row) k x) (is (codes "PROGRAM_NAME") t))
      by false false false false p q s t =
          let out : is_word kind ≡ false = ap (λ b. b || (bytes_eq kind (codes "VEN_NAME") || (bytes_eq kind (codes "EVENT_NAME") || bytes_eq kind (codes "PROGRAM_NAME")))) p
          ∙ ap (λ b. b || (bytes_eq kind (codes "EVENT_NAME") || bytes_eq kind (codes "PROGRAM_NAME"))) q ∙ ap (λ b. b || bytes_eq kind (codes "PROGRAM_NAME")) s ∙ t in
          ap (λ b. left kind x b (bytes_eq kind (codes "VEN_NAME")) (bytes_eq kind (codes "EVENT_NAME")) (bytes_eq kind (codes "PROGRAM_NAME"))) p
          ∙ ap (λ b. left kind x false b (bytes_eq kind (codes "EVENT_NAME")) (bytes_eq kind (codes "PROGRAM_NAME"))) q
          ∙ ap (λ b. left kind x false false b (bytes_eq kind (codes "PROGRAM_NAME"))) s ∙ ap (λ b. left kind x false false false b) t
          ∙ asked_value kind x out
          ∙ sym (
          ap (λ b. cond (b || bytes_eq kind (codes "PROGRAM_NAME")) (is_called event program kind) (is_offered (offers_key row) kind) x) s
          ∙ ap (λ b. cond b (is_called event program kind) (is_offered (offers_key row) kind) x) t
          ∙ ap (λ b. option_map_or (offers_key row) (cond b (named_key (λ name. Resource name) x) (cond (bytes_eq kind (codes "VEN_NAME")) (named_key (λ name. Ven name) x) (Some (Value kind x)))) false) p
          ∙ ap (λ b. option_map_or (offers_key row) (cond b (named_key (λ name. Ven name) x) (Some (Value kind x))) false) q
          )

  matches-meets : (ts : List Target) → matches ts scene ≡ meets (meets_value event program (offers_key row)) ts
  matches-meets ts =
      let same : ◌≡◌ {A = List ℕ → Datum → Bool} (is_matched scene) (meets_value event program (offers_key row)) = λ i. λ kind x. is_matched-meets kind x i in
      ap (λ m. list_all (λ t. list_any (λ u. bytes_eq u.kind t.kind && list_any (m t.kind) u.values) ts) ts) same

  pub rows_match : is_for event program (offers_key row) ≡ applies scene
  rows_match = sym (ap (λ b. b && matches program.targets scene) (matches-meets event.targets) ∙ ap (λ b. meets (meets_value event program (offers_key row)) event.targets && b) (matches-meets program.targets))

pub rows_match_as_scenes : RowsMatchAsScenes
rows_match_as_scenes event program ven resource = rows_match event program ven resource
