-- Windows that cover all that entries of their types cover.
use Rattle.std.proofs.Common.{◌≡◌, ℤ, ◌≤ℤ◌, ◌⊎◌, inl, inr, ◌||◌, Bool, true, false, List, [], ◌∷◌, ◌++◌, length, if◌then◌else◌, refl, ap, sym, subst, ◌∙◌, arith}
use Rattle.std.specs.Prelude.{int_le}
use Rattle.std.proofs.lemmas.Bool.{and_parts, or_cases}
use Rattle.std.proofs.lemmas.Int.{ints}
use Rattle.adr_value.specs.Payload.{name_of}
use Rattle.adr_value.specs.Same.{same_type}
use Rattle.adr_value.specs.declared.payload.PayloadType.{PayloadType}
use Rattle.adr_time.specs.Spans.{covers, is_before}
use Rattle.adr_model.specs.declared.entry.Entry.{Entry}
use Rattle.adr_model.proofs.Lists.{bytes_eq_self}
use Rattle.adr_lines.specs.declared.grouped.TypeEntries.{TypeEntries}
use Rattle.adr_lines.specs.Grouped.{any_covers_at, entries_under}
use Rattle.adr_lines.proofs.Covered.{any_left, any_right}
use Rattle.adr_lines.proofs.Groups.{same_as_each}
use Rattle.adr_lines.specs.Indexes.{has_type, own_entries}
use Rattle.adr_desk.specs.Bulk.{AreFrom, IsFrom}

le_from : (a b : ℤ) → int_le a b ≡ true → a ≤ℤ b
le_from a b h = grind (arith, ints)

le_both : (a b c : ℤ) → a ≤ℤ b → b ≤ℤ c → a ≤ℤ c
le_both a b c h k = grind (arith, ints)

-- ---- no entry covers an instant before the first moment

pub covers_late : (from : ℤ) (e : Entry) (t : ℤ) → from ≤ℤ e.span.start → covers e.span t ≡ true → from ≤ℤ t
covers_late from e t first c = le_both from e.span.start t first (le_from e.span.start t (and_parts (int_le e.span.start t) (is_before t e.span.end) c).0)

pub next_late : (from : ℤ) (rest more : List Entry) (e : Entry) (t : ℤ) → rest ≡ e ∷ more → from ≤ℤ e.span.start
    → (any_covers_at rest t ≡ true) ⊎ (from ≤ℤ t) → (any_covers_at more t ≡ true) ⊎ (from ≤ℤ t)
next_late from rest more e t first begins (inr le) = inr le
next_late from rest more e t first begins (inl c) = by (or_cases (covers e.span t) (any_covers_at more t) (sym (ap (λ es. any_covers_at es t) first) ∙ c))
  where
    by : (covers e.span t ≡ true) ⊎ (any_covers_at more t ≡ true) → (any_covers_at more t ≡ true) ⊎ (from ≤ℤ t)
    by (inl h) = inr (covers_late from e t begins h)
    by (inr h) = inl h

pub none_late : (from : ℤ) (rest : List Entry) (t : ℤ) → length rest ≡ 0 → (any_covers_at rest t ≡ true) ⊎ (from ≤ℤ t) → from ≤ℤ t
none_late from rest t none (inr le) = le
none_late from [] t none (inl c) = absurd (cc c)
none_late from (e ∷ es) t none (inl c) = absurd (omega (arith, none))

-- ---- a window that covers all from a moment on

-- windows of a type cover all of it
pub typed_covers : (from : ℤ) (windows : List TypeEntries) (j k : PayloadType) (t : ℤ) → AreFrom from windows → has_type windows j ≡ true → same_type j k ≡ true
    → from ≤ℤ t → any_covers_at (entries_under windows k) t ≡ true
typed_covers from [] j k t all has same le = absurd (cc has)
typed_covers from (g ∷ gs) j k t all has same le = by (same_type g.payload_type j) refl has (λ h. typed_covers from gs j k t all.1 h same le)
  where
    by : (b : Bool) → same_type g.payload_type j ≡ b → (b || has_type gs j) ≡ true → (has_type gs j ≡ true → any_covers_at (entries_under gs k) t ≡ true)
        → any_covers_at (entries_under (g ∷ gs) k) t ≡ true
    by true e h later =
        let own : same_type g.payload_type k ≡ true = same_as_each g.payload_type j k e ∙ same in
        any_left (own_entries g k) (entries_under gs k) t (ap (λ b. any_covers_at (if b then g.entries.items else []) t) own ∙ all.0.1 t le)
    by false e h later = any_right (own_entries g k) (entries_under gs k) t (later h)

-- what a group covers is late, and of its type
own_type : (g : TypeEntries) (k : PayloadType) (t : ℤ) → any_covers_at (own_entries g k) t ≡ true → (same_type g.payload_type k ≡ true) × (any_covers_at g.entries.items t ≡ true)
own_type g k t c = by (same_type g.payload_type k) c
  where
    by : (b : Bool) → any_covers_at (if b then g.entries.items else []) t ≡ true → (b ≡ true) × (any_covers_at g.entries.items t ≡ true)
    by true h = (refl, h)
    by false h = absurd (cc h)

module _ (from : ℤ) (g : TypeEntries) (late : (t : ℤ) → any_covers_at g.entries.items t ≡ true → from ≤ℤ t) where
  pub held_covers : (windows : List TypeEntries) → AreFrom from windows → has_type windows g.payload_type ≡ true
      → (k : PayloadType) (t : ℤ) → any_covers_at (own_entries g k) t ≡ true → any_covers_at (entries_under windows k) t ≡ true
  held_covers windows all has k t c = let o = own_type g k t c in typed_covers from windows g.payload_type k t all has o.0 (late t o.1)

all_push : (from : ℤ) (windows : List TypeEntries) (w : TypeEntries) → AreFrom from windows → IsFrom from w → AreFrom from (windows ++ w ∷ [])
all_push from [] w all one = (one, tt)
all_push from (g ∷ gs) w all one = (all.0, all_push from gs w all.1 one)

has_last : (windows : List TypeEntries) (w : TypeEntries) (j : PayloadType) → same_type w.payload_type j ≡ true → has_type (windows ++ w ∷ []) j ≡ true
has_last [] w j same = ap (λ b. b || false) same
has_last (g ∷ gs) w j same = by (same_type g.payload_type j) (has_last gs w j same)
  where
    by : (b : Bool) → has_type (gs ++ w ∷ []) j ≡ true → (b || has_type (gs ++ w ∷ []) j) ≡ true
    by true h = refl
    by false h = h

module _ (from : ℤ) (old new : List TypeEntries) (w : TypeEntries) (made : new ≡ old ++ w ∷ []) where
  pub pushed_from : AreFrom from old → IsFrom from w → AreFrom from new
  pushed_from all one = subst (AreFrom from) (sym made) (all_push from old w all one)

  pub pushed_covers : (g : TypeEntries) → ((t : ℤ) → any_covers_at g.entries.items t ≡ true → from ≤ℤ t) → AreFrom from old → IsFrom from w → same_type w.payload_type g.payload_type ≡ true
      → (k : PayloadType) (t : ℤ) → any_covers_at (own_entries g k) t ≡ true → any_covers_at (entries_under new k) t ≡ true
  pushed_covers g late all one same =
      held_covers from g late new (pushed_from all one) (ap (λ gs. has_type gs g.payload_type) made ∙ has_last old w g.payload_type same)

-- ---- one group after the other

pub own_same : (j k : PayloadType) → j ≡ k → same_type j k ≡ true
own_same j k e = ap (λ i. same_type i k) e ∙ bytes_eq_self (name_of k)

pub late_in : (from : ℤ) (g : TypeEntries) (entries : List Entry) → entries ≡ g.entries.items → ((t : ℤ) → any_covers_at entries t ≡ true → from ≤ℤ t)
    → (t : ℤ) → any_covers_at g.entries.items t ≡ true → from ≤ℤ t
late_in from g entries e late t c = late t (ap (λ es. any_covers_at es t) e ∙ c)
