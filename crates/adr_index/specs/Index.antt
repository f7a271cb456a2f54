-- An index as a list.
use Rattle.std.specs.Prelude.{◌≡◌, ℕ, ◌+◌, ◌-◌, ◌*◌, ◌≤◌, ⊤, Bool, true, false, not, ◌&&◌, ◌||◌, ◌==◌, List, [], ◌∷◌, ◌++◌, length, filter}
use Rattle.std.specs.List.{AllByRecursion, list_any}
use Rattle.std.specs.Int.{leading_zeros, w64}
use Rattle.adr_model.specs.declared.entry.Entry.{Entry}
use Rattle.adr_model.specs.Entries.{is_listed_before}

-- what an index is seen as: its entries in order, and how many more are sure of their room
pub record Indexed : Type 0 where
  pub entries : List Entry
  pub spare : ℕ

-- how many binary digits a number below 2 ^ 64 has
abbrev pub digits : ℕ → ℕ
digits n = 64 - leading_zeros w64 n

-- 4(d + 1)(m + 1) looks, d being the binary digits of the number of entries, and m how many are answered
abbrev pub most_probes : List Entry → ℕ → ℕ
most_probes entries answered = 4 * (digits (length entries) + 1) * (answered + 1)

-- the entry has that written number and place
abbrev pub is_entry : ℕ → ℕ → Entry → Bool
is_entry written place e = (e.rank.written == written) && (e.rank.place == place)

-- the entries that come before the new one, it, and the others
abbrev pub inserted : Entry → List Entry → List Entry
inserted e entries = filter (λ x. is_listed_before x e) entries ++ e ∷ filter (λ x. not (is_listed_before x e)) entries

-- the entries but for that of the written number and place
abbrev pub without : ℕ → ℕ → List Entry → List Entry
without written place entries = filter (λ e. not (is_entry written place e)) entries

-- each entry comes before all later ones
abbrev pub IsOrdered : List Entry → Type 0
IsOrdered [] = ⊤
IsOrdered (e ∷ es) = AllByRecursion (λ f. is_listed_before e f ≡ true) es × IsOrdered es

-- the entries that come before it or after it
abbrev pub others : Entry → List Entry → List Entry
others e entries = filter (λ x. is_listed_before x e || is_listed_before e x) entries

-- the entries but for those that stand in the place of one of the old
abbrev pub others_all : List Entry → List Entry → List Entry
others_all [] entries = entries
others_all (e ∷ es) entries = others_all es (others e entries)

-- the entries, and each of the new ones in its place
abbrev pub inserted_all : List Entry → List Entry → List Entry
inserted_all [] entries = entries
inserted_all (e ∷ es) entries = inserted_all es (inserted e entries)

-- no two have one written number and place
abbrev pub AreDistinct : List Entry → Type 0
AreDistinct entries = (written place : ℕ) → length (filter (is_entry written place) entries) ≤ 1

-- none has the written number and place of an entry, or of a new one before it
abbrev pub AreNew : List Entry → List Entry → Type 0
AreNew [] entries = ⊤
AreNew (e ∷ es) entries = (list_any (is_entry e.rank.written e.rank.place) entries ≡ false) × AreNew es (inserted e entries)
