-- Windows of one type that are gathered under it.
use Rattle.std.proofs.Common.{◌≡◌, ℕ, zero, suc, ℤ, ◌+◌, ◌<◌, Bool, true, false, cond, if◌then◌else◌, ◌||◌, List, [], ◌∷◌, ◌++◌, length, map, set, get_or, Some, refl, ap, sym, subst, ◌∙◌, append_assoc, append-nil, arith}
use Rattle.std.specs.List.{position, IsDistinct}
use Rattle.std.specs.Str.{bytes_eq}
use Rattle.std.specs.HashMap.{get_by_text}
use Rattle.std.specs.Option.{option_map_or}
use Rattle.std.proofs.lemmas.List.Folds.{list_any-append}
use Rattle.std.proofs.lemmas.List.Quantifiers.{position-Some}
use Rattle.adr_value.specs.Payload.{name_of}
use Rattle.adr_value.specs.Same.{same_type}
use Rattle.adr_value.specs.declared.payload.PayloadType.{PayloadType}
use Rattle.adr_time.specs.Spans.{covers}
use Rattle.adr_model.specs.declared.entry.Entry.{Entry}
use Rattle.adr_lines.specs.declared.grouped.TypeEntries.{TypeEntries}
use Rattle.adr_lines.specs.Grouped.{any_covers_at, entries_under, HaveOwnTypes}
use Rattle.adr_lines.proofs.Groups.{none_under, same_as_each}
use Rattle.adr_lines.specs.declared.indexes.Indexes.{Indexes}
use Rattle.adr_lines.specs.Indexes.{own_entries, under}
use Rattle.adr_group.specs.Jobs.{AreAlike}
use Rattle.adr_group.specs.Repair.{most_inside, most_repaired}
use Rattle.adr_group.proofs.Jobs.{alike_passes, alike_self, both_alike}
use Rattle.adr_group.proofs.Turns.{most_both, one_name, under_both}

-- ---- types of one name

same_kind : (a b k : PayloadType) → name_of a ≡ name_of b → same_type a k ≡ same_type b k
same_kind a b k e = ap (λ (n : List ℕ). bytes_eq n (name_of k)) e

same_under : (indexes : Indexes) (a b : PayloadType) → name_of a ≡ name_of b → under indexes a ≡ under indexes b
same_under indexes a b e = ap (λ (n : List ℕ). option_map_or (λ i. i.entries) (get_by_text indexes.by_name n) []) e

any_both : (xs ys : List Entry) (t : ℤ) → any_covers_at (xs ++ ys) t ≡ (any_covers_at xs t || any_covers_at ys t)
any_both xs ys t = list_any-append (λ e. covers e.span t) xs ys

inside_both : (writes : List ℕ) (entries xs ys : List Entry) → most_inside writes entries (xs ++ ys) ≡ most_inside writes entries xs + most_inside writes entries ys
inside_both writes entries [] ys = omega arith
inside_both writes entries (x ∷ xs) ys = let rest = inside_both writes entries xs ys in omega (arith, rest)

-- ---- one of them has more

module _ (x h g : TypeEntries) (same : h.payload_type ≡ x.payload_type) (more : h.entries.items ≡ x.entries.items ++ g.entries.items) (is : same_type x.payload_type g.payload_type ≡ true) where
  own_any : (k : PayloadType) (t : ℤ) → any_covers_at (own_entries h k) t ≡ (any_covers_at (own_entries x k) t || any_covers_at (own_entries g k) t)
  own_any k t =
      ap (λ (p : PayloadType). any_covers_at (if same_type p k then h.entries.items else []) t) same
      ∙ ap (λ (es : List Entry). any_covers_at (if same_type x.payload_type k then es else []) t) more
      ∙ by (same_type x.payload_type k)
      ∙ ap (λ (b : Bool). any_covers_at (own_entries x k) t || any_covers_at (if b then g.entries.items else []) t) (same_kind x.payload_type g.payload_type k (one_name x.payload_type g.payload_type is))
    where
      by : (b : Bool) → any_covers_at (if b then x.entries.items ++ g.entries.items else []) t ≡ (any_covers_at (if b then x.entries.items else []) t || any_covers_at (if b then g.entries.items else []) t)
      by true = any_both x.entries.items g.entries.items t
      by false = refl

  own_cost : (writes : List ℕ) (indexes : Indexes)
      → most_inside writes (under indexes h.payload_type) h.entries.items ≡ most_inside writes (under indexes x.payload_type) x.entries.items + most_inside writes (under indexes g.payload_type) g.entries.items
  own_cost writes indexes =
      ap (λ (p : PayloadType). most_inside writes (under indexes p) h.entries.items) same
      ∙ ap (λ (es : List Entry). most_inside writes (under indexes x.payload_type) es) more
      ∙ inside_both writes (under indexes x.payload_type) x.entries.items g.entries.items
      ∙ ap (λ (es : List Entry). most_inside writes (under indexes x.payload_type) x.entries.items + most_inside writes es g.entries.items) (same_under indexes x.payload_type g.payload_type (one_name x.payload_type g.payload_type is))

any_at : (types : List TypeEntries) (place : ℕ) (d h g : TypeEntries) → place < length types → same_type (get_or types place d).payload_type g.payload_type ≡ true
    → h.payload_type ≡ (get_or types place d).payload_type → h.entries.items ≡ (get_or types place d).entries.items ++ g.entries.items
    → (k : PayloadType) (t : ℤ) → any_covers_at (entries_under (set types place h) k) t ≡ (any_covers_at (entries_under types k) t || any_covers_at (own_entries g k) t)
any_at [] place d h g within is same more k t = absurd (omega arith)
any_at (x ∷ types) zero d h g within is same more k t =
    any_both (own_entries h k) (entries_under types k) t
    ∙ ap (λ (b : Bool). b || any_covers_at (entries_under types k) t) (own_any x h g same more is k t)
    ∙ by (any_covers_at (own_entries x k) t) (any_covers_at (own_entries g k) t) (any_covers_at (entries_under types k) t)
    ∙ ap (λ (b : Bool). b || any_covers_at (own_entries g k) t) (sym (any_both (own_entries x k) (entries_under types k) t))
  where
    by : (a b c : Bool) → ((a || b) || c) ≡ ((a || c) || b)
    by true b c = refl
    by false true true = refl
    by false true false = refl
    by false false true = refl
    by false false false = refl
any_at (x ∷ types) (suc place) d h g within is same more k t =
    any_both (own_entries x k) (entries_under (set types place h) k) t
    ∙ ap (λ (b : Bool). any_covers_at (own_entries x k) t || b) (any_at types place d h g (omega arith) is same more k t)
    ∙ by (any_covers_at (own_entries x k) t) (any_covers_at (entries_under types k) t) (any_covers_at (own_entries g k) t)
    ∙ ap (λ (b : Bool). b || any_covers_at (own_entries g k) t) (sym (any_both (own_entries x k) (entries_under types k) t))
  where
    by : (a b c : Bool) → (a || (b || c)) ≡ ((a || b) || c)
    by true b c = refl
    by false b c = refl

cost_at : (types : List TypeEntries) (place : ℕ) (d h g : TypeEntries) → place < length types → same_type (get_or types place d).payload_type g.payload_type ≡ true
    → h.payload_type ≡ (get_or types place d).payload_type → h.entries.items ≡ (get_or types place d).entries.items ++ g.entries.items
    → (writes : List ℕ) (indexes : Indexes) → most_repaired (set types place h) writes indexes ≡ most_repaired types writes indexes + most_inside writes (under indexes g.payload_type) g.entries.items
cost_at [] place d h g within is same more writes indexes = absurd (omega arith)
cost_at (x ∷ types) zero d h g within is same more writes indexes = let own = own_cost x h g same more is writes indexes in omega (arith, own)
cost_at (x ∷ types) (suc place) d h g within is same more writes indexes = let rest = cost_at types place d h g (omega arith) is same more writes indexes in omega (arith, rest)

under_at : (types : List TypeEntries) (place : ℕ) (d h g : TypeEntries) → place < length types → same_type (get_or types place d).payload_type g.payload_type ≡ true
    → h.payload_type ≡ (get_or types place d).payload_type → h.entries.items ≡ (get_or types place d).entries.items ++ g.entries.items → HaveOwnTypes types
    → (k : PayloadType) → entries_under (set types place h) k ≡ entries_under types k ++ own_entries g k
unfolding IsDistinct
under_at [] place d h g within is same more own k = absurd (omega arith)
under_at (x ∷ types) zero d h g within is same more own k =
    ap (λ (p : PayloadType). cond (same_type p k) h.entries.items [] ++ entries_under types k) same
    ∙ by (same_type x.payload_type k) refl (sym (same_as_each x.payload_type g.payload_type k is))
  where
    by : (b : Bool) → same_type x.payload_type k ≡ b → same_type g.payload_type k ≡ same_type x.payload_type k
        → cond b h.entries.items [] ++ entries_under types k ≡ (cond b x.entries.items [] ++ entries_under types k) ++ own_entries g k
    by true s u =
        rw (none_under x.payload_type k s types own.0, u, s, more)
        (append-nil (x.entries.items ++ g.entries.items) ∙ ap (λ (es : List Entry). es ++ g.entries.items) (sym (append-nil x.entries.items)))
    by false s u = rw (u, s) (sym (append-nil (entries_under types k)))
under_at (x ∷ types) (suc place) d h g within is same more own k =
    ap (λ (es : List Entry). own_entries x k ++ es) (under_at types place d h g (omega arith) is same more own.1 k)
    ∙ sym (append_assoc (own_entries x k) (entries_under types k) (own_entries g k))

same_types : (types : List TypeEntries) (place : ℕ) (d h : TypeEntries) → place < length types → h.payload_type ≡ (get_or types place d).payload_type
    → map (λ (x : TypeEntries). x.payload_type) (set types place h) ≡ map (λ (x : TypeEntries). x.payload_type) types
same_types [] place d h within same = absurd (omega arith)
same_types (x ∷ types) zero d h within same = ap (λ (p : PayloadType). p ∷ map (λ (y : TypeEntries). y.payload_type) types) same
same_types (x ∷ types) (suc place) d h within same = ap (λ (ps : List PayloadType). x.payload_type ∷ ps) (same_types types place d h (omega arith) same)

-- each type is there once still
pub gathered_own : (types : List TypeEntries) (place : ℕ) (d h : TypeEntries) (k : PayloadType) → position (λ (x : TypeEntries). same_type x.payload_type k) types ≡ Some place
    → h.payload_type ≡ (get_or types place d).payload_type → HaveOwnTypes types → HaveOwnTypes (set types place h)
gathered_own types place d h k found same own =
    subst (IsDistinct same_type) (sym (same_types types place d h (position-Some (λ (x : TypeEntries). same_type x.payload_type k) types place d found).0 same)) own

-- the windows are gathered under their type
pub gathered : (types : List TypeEntries) (place : ℕ) (d h g : TypeEntries) → position (λ (x : TypeEntries). same_type x.payload_type g.payload_type) types ≡ Some place
    → h.payload_type ≡ (get_or types place d).payload_type → h.entries.items ≡ (get_or types place d).entries.items ++ g.entries.items → HaveOwnTypes types
    → AreAlike (set types place h) (types ++ g ∷ [])
gathered types place d h g found same more own =
    let p = position-Some (λ (x : TypeEntries). same_type x.payload_type g.payload_type) types place d found in
    record {
      under = λ k. under_at types place d h g p.0 p.1 same more own k
          ∙ ap (λ (es : List Entry). entries_under types k ++ es) (sym (append-nil (own_entries g k)))
          ∙ sym (under_both types (g ∷ []) k);
      covers = λ k t. any_at types place d h g p.0 p.1 same more k t
          ∙ ap (λ (es : List Entry). any_covers_at (entries_under types k) t || any_covers_at es t) (sym (append-nil (own_entries g k)))
          ∙ sym (any_both (entries_under types k) (entries_under (g ∷ []) k) t)
          ∙ ap (λ (es : List Entry). any_covers_at es t) (sym (under_both types (g ∷ []) k));
      cost = λ writes indexes.
          (let whole = most_both types (g ∷ []) writes indexes in
          let here = cost_at types place d h g p.0 p.1 same more writes indexes in
          omega (arith, whole, here));
    }

-- then the others
pub gather_one : (new types more rest all : List TypeEntries) (g : TypeEntries) → rest ≡ g ∷ more → AreAlike new (types ++ g ∷ []) → AreAlike (types ++ rest) all → AreAlike (new ++ more) all
gather_one new types more rest all g is one before =
    alike_passes (new ++ more) ((types ++ g ∷ []) ++ more) all
    (both_alike new (types ++ g ∷ []) (new ++ more) more one (alike_self (new ++ more)))
    (subst (λ l. AreAlike l all) (sym (append_assoc types (g ∷ []) more)) (subst (λ l. AreAlike (types ++ l) all) is before))
