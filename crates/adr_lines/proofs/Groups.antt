-- Entries by type, after one more is added.
use Rattle.std.proofs.Common.{◌≡◌, ℕ, ◌+◌, ◌<◌, ◌≤◌, length, get_or, set, zero, suc, Bool, true, false, not, cond, ltb, if◌then◌else◌, List, [], ◌∷◌, ◌++◌, map, refl, ap, sym, subst, ◌∙◌, append-nil, arith}
use Rattle.std.specs.Prelude.{Some, None}
use Rattle.std.specs.List.{position, prefix_len, AllByRecursion, IsDistinct}
use Rattle.std.specs.Str.{bytes_eq}
use Rattle.std.proofs.lemmas.Bool.{ltb-false}
use Rattle.std.proofs.lemmas.Grind.{flat_map-append}
use Rattle.std.proofs.lemmas.List.{append_assoc}
use Rattle.std.proofs.lemmas.List.Quantifiers.{position-Some}
use Rattle.std.proofs.lemmas.Slice.Eq.{bytes_eq-Decides}
use Rattle.adr_value.specs.Payload.{name_of}
use Rattle.adr_value.specs.Same.{same_type}
use Rattle.adr_value.specs.declared.payload.PayloadType.{PayloadType}
use Rattle.adr_model.specs.declared.entry.Entry.{Entry}
use Rattle.adr_lines.specs.declared.grouped.TypeEntries.{TypeEntries}
use Rattle.adr_lines.specs.Grouped.{entries_under, once_for_each, HaveOwnTypes}

abbrev pub is_of : PayloadType → TypeEntries → Bool
is_of t g = same_type g.payload_type t

-- the entries of a group, where it is of the type
abbrev own : TypeEntries → PayloadType → List Entry
own g k = if same_type g.payload_type k then g.entries.items else []

-- types that are the same are the same as each other type
pub same_as_each : (a b k : PayloadType) → same_type a b ≡ true → same_type a k ≡ same_type b k
same_as_each a b k s = ap (λ (n : List ℕ). bytes_eq n (name_of k)) ((bytes_eq-Decides (name_of a) (name_of b)).0 s)

pub own_same : (a k : PayloadType) → same_type a k ≡ true → (b : PayloadType) → same_type a b ≡ false → same_type b k ≡ false
own_same a k s b apart = by (same_type b k) refl
  where
    by : (x : Bool) → same_type b k ≡ x → same_type b k ≡ false
    by false t = t
    by true t =
        let one : name_of a ≡ name_of k = (bytes_eq-Decides (name_of a) (name_of k)).0 s in
        let two : name_of b ≡ name_of k = (bytes_eq-Decides (name_of b) (name_of k)).0 t in
        let z : same_type a b ≡ true = (bytes_eq-Decides (name_of a) (name_of b)).1 (one ∙ sym two) in
        absurd (cc)

-- where the first group of others is of the type, none of the others is
pub none_under : (a k : PayloadType) → same_type a k ≡ true → (gs : List TypeEntries)
    → AllByRecursion (λ b. same_type a b ≡ false) (map (λ (g : TypeEntries). g.payload_type) gs) → entries_under gs k ≡ []
none_under a k s [] h = refl
none_under a k s (g ∷ gs) h = rw (own_same a k s g.payload_type h.0) (none_under a k s gs h.1)

-- ---- a group that is there

-- one entry more in the group at the place
more_at : (groups : List TypeEntries) (place : ℕ) (d new : TypeEntries) (t : PayloadType) (e : Entry) (k : PayloadType)
    → place < length groups → same_type (get_or groups place d).payload_type t ≡ true
    → new.payload_type ≡ (get_or groups place d).payload_type → new.entries.items ≡ (get_or groups place d).entries.items ++ e ∷ []
    → HaveOwnTypes groups
    → entries_under (set groups place new) k ≡ entries_under groups k ++ once_for_each e (t ∷ []) k
unfolding IsDistinct
more_at [] place d new t e k within is_type same more types = absurd (omega arith)
more_at (g ∷ gs) zero d new t e k within is_type same more types =
    ap (λ (p : PayloadType). cond (same_type p k) new.entries.items [] ++ entries_under gs k) same
    ∙ by (same_type g.payload_type k) refl (sym (same_as_each g.payload_type t k is_type))
  where
    by : (b : Bool) → same_type g.payload_type k ≡ b → same_type t k ≡ same_type g.payload_type k
        → cond b new.entries.items [] ++ entries_under gs k
        ≡ (cond b g.entries.items [] ++ entries_under gs k) ++ once_for_each e (t ∷ []) k
    by true s u =
        rw (none_under g.payload_type k s gs types.0, u, s, more)
        (append-nil (g.entries.items ++ e ∷ []) ∙ ap (λ (es : List Entry). es ++ e ∷ []) (sym (append-nil g.entries.items)))
    by false s u = rw (u, s) (sym (append-nil (entries_under gs k)))
more_at (g ∷ gs) (suc place) d new t e k within is_type same more types =
    ap (λ (es : List Entry). own g k ++ es) (more_at gs place d new t e k (omega arith) is_type same more types.1)
    ∙ sym (append_assoc (own g k) (entries_under gs k) (once_for_each e (t ∷ []) k))

same_types : (groups : List TypeEntries) (place : ℕ) (d new : TypeEntries) → place < length groups → new.payload_type ≡ (get_or groups place d).payload_type
    → map (λ (g : TypeEntries). g.payload_type) (set groups place new) ≡ map (λ (g : TypeEntries). g.payload_type) groups
same_types [] place d new within same = absurd (omega arith)
same_types (g ∷ gs) zero d new within same = ap (λ (p : PayloadType). p ∷ map (λ (x : TypeEntries). x.payload_type) gs) same
same_types (g ∷ gs) (suc place) d new within same =
    ap (λ (ps : List PayloadType). g.payload_type ∷ ps) (same_types gs place d new (omega arith) same)

module _ (groups : List TypeEntries) (place : ℕ) (d new : TypeEntries) (t : PayloadType) (e : Entry)
    (found : position (is_of t) groups ≡ Some place)
    (same : new.payload_type ≡ (get_or groups place d).payload_type)
    (more : new.entries.items ≡ (get_or groups place d).entries.items ++ e ∷ []) where
  pub entries_there : HaveOwnTypes groups → (k : PayloadType) → entries_under (set groups place new) k ≡ entries_under groups k ++ once_for_each e (t ∷ []) k
  entries_there types k =
      let p = position-Some (is_of t) groups place d found in
      more_at groups place d new t e k p.0 p.1 same more types

  pub types_there : HaveOwnTypes groups → HaveOwnTypes (set groups place new)
  types_there types = subst (IsDistinct same_type) (sym (same_types groups place d new (position-Some (is_of t) groups place d found).0 same)) types

-- ---- a new group

pub entries_put : (groups : List TypeEntries) (new : TypeEntries) (t : PayloadType) (e : Entry) → new.payload_type ≡ t → new.entries.items ≡ e ∷ []
    → (k : PayloadType) → entries_under (groups ++ new ∷ []) k ≡ entries_under groups k ++ once_for_each e (t ∷ []) k
entries_put groups new t e same one k =
    flat_map-append (λ (g : TypeEntries). own g k) groups (new ∷ [])
    ∙ ap (λ (p : PayloadType). entries_under groups k ++ (cond (same_type p k) new.entries.items [] ++ [])) same
    ∙ ap (λ (es : List Entry). entries_under groups k ++ (cond (same_type t k) es [] ++ [])) one

all_other : (p : TypeEntries → Bool) (gs : List TypeEntries) → length gs ≤ prefix_len (λ g. not (p g)) gs → AllByRecursion (λ g. p g ≡ false) gs
all_other p [] h = tt
all_other p (g ∷ gs) h = by (p g) refl h (all_other p gs)
  where
    by : (b : Bool) → p g ≡ b → suc (length gs) ≤ cond (not b) (1 + prefix_len (λ x. not (p x)) gs) 0
        → (length gs ≤ prefix_len (λ x. not (p x)) gs → AllByRecursion (λ x. p x ≡ false) gs) → AllByRecursion (λ x. p x ≡ false) (g ∷ gs)
    by true s l rest = absurd (omega arith)
    by false s l rest = (s, rest (omega arith))

no_place : (p : TypeEntries → Bool) (gs : List TypeEntries) → position p gs ≡ None → AllByRecursion (λ g. p g ≡ false) gs
no_place p gs none = by (ltb n (length gs)) refl none
  where
    n : ℕ
    n = prefix_len (λ g. not (p g)) gs

    by : (b : Bool) → ltb n (length gs) ≡ b → cond b (Some n) None ≡ None → AllByRecursion (λ g. p g ≡ false) gs
    by true s h = absurd (cc)
    by false s h = all_other p gs (ltb-false n (length gs) s)

distinct_push : (t : PayloadType) (gs : List TypeEntries) → AllByRecursion (λ g. is_of t g ≡ false) gs → HaveOwnTypes gs
    → IsDistinct same_type (map (λ (g : TypeEntries). g.payload_type) gs ++ t ∷ [])
unfolding IsDistinct
distinct_push t [] apart types = (tt, tt)
distinct_push t (g ∷ gs) apart types = (one_more gs types.0, distinct_push t gs apart.1 types.1)
  where
    one_more : (xs : List TypeEntries) → AllByRecursion (λ b. same_type g.payload_type b ≡ false) (map (λ (x : TypeEntries). x.payload_type) xs)
        → AllByRecursion (λ b. same_type g.payload_type b ≡ false) (map (λ (x : TypeEntries). x.payload_type) xs ++ t ∷ [])
    one_more [] h = (apart.0, tt)
    one_more (x ∷ xs) h = (h.0, one_more xs h.1)

pub types_put : (groups : List TypeEntries) (new : TypeEntries) (t : PayloadType) → position (is_of t) groups ≡ None → new.payload_type ≡ t
    → HaveOwnTypes groups → HaveOwnTypes (groups ++ new ∷ [])
types_put groups new t none same types =
    subst (IsDistinct same_type) (names groups)
    (distinct_push t groups (no_place (is_of t) groups none) types)
  where
    names : (gs : List TypeEntries) → map (λ (g : TypeEntries). g.payload_type) gs ++ t ∷ [] ≡ map (λ (g : TypeEntries). g.payload_type) (gs ++ new ∷ [])
    names [] = ap (λ (p : PayloadType). p ∷ []) (sym same)
    names (g ∷ gs) = ap (λ (ps : List PayloadType). g.payload_type ∷ ps) (names gs)

pub no_types : HaveOwnTypes []
unfolding IsDistinct
no_types = tt
