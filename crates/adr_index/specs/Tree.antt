-- A tree of greatest ends over parts of a list of entries in order of their starts.
use Rattle.std.specs.Prelude.{◌≡◌, ℕ, zero, suc, ◌-◌, ◌<◌, ◌≤◌, ◌/◌, ◌^◌, min, ⊤, Bool, true, false, ◌||◌, List, [], ◌∷◌, length, take, drop, Option, Some, None, if◌then◌else◌, ℤ, ◌≤ℤ◌, slice_index_or}
use Rattle.std.specs.List.{AllByRecursion, flat_map}
use Rattle.adr_time.specs.Spans.{is_before, lasts, later_end}
use Rattle.adr_time.specs.declared.span.End.{End}
use Rattle.adr_model.specs.declared.entry.Entry.{Entry}
use Rattle.adr_index.specs.Query.{lasts_past}

-- in order of their starts
abbrev pub IsByStart : List Entry → Type 0
IsByStart [] = ⊤
IsByStart (e ∷ es) = AllByRecursion (λ f. e.span.start ≤ℤ f.span.start) es × IsByStart es

-- some entry covers an instant and ends after the instant t
abbrev pub any_lasts : List Entry → ℤ → Bool
any_lasts [] t = false
any_lasts (e ∷ es) t = lasts_past e t || any_lasts es t

-- the end, if there is one, comes after the instant
abbrev pub comes_after : Option End → ℤ → Bool
comes_after None t = false
comes_after (Some e) t = is_before t e

-- the greatest end of the entries that cover some instant
abbrev pub IsGreatest : Option End → List Entry → Type 0
IsGreatest g es = (t : ℤ) → comes_after g t ≡ any_lasts es t

-- the entry alone
abbrev pub only : Entry → List Entry
only e = e ∷ []

-- two parts or more have their greatest end between the ends of their halves, and the halves of more than a few are
-- trees again
abbrev pub IsTree : {A : Type 0} → (A → List Entry) → ℕ → ℕ → List A → List (Option End) → Type 0
IsTree f few zero xs gs = ⊤
IsTree f few (suc h) xs gs =
    1 < length xs →
    IsGreatest (slice_index_or gs (length xs / 2 - 1) None) (flat_map f xs)
    × (few < length xs → IsTree f few h (take (length xs / 2) xs) (take (length xs / 2 - 1) gs) × IsTree f few h (drop (length xs / 2) xs) (drop (length xs / 2) gs))

-- a tree but for what it has of the parts from a place up to another
abbrev pub IsTreeBut : {A : Type 0} → (A → List Entry) → ℕ → ℕ → ℕ → ℕ → List A → List (Option End) → Type 0
IsTreeBut f few zero from to xs gs = ⊤
IsTreeBut f few (suc h) from to xs gs =
    (to ≤ from → IsTree f few (suc h) xs gs)
    × (few < length xs → IsTreeBut f few h (min from (length xs / 2)) (min to (length xs / 2)) (take (length xs / 2) xs) (take (length xs / 2 - 1) gs) × IsTreeBut f few h (from - length xs / 2) (to - length xs / 2) (drop (length xs / 2) xs) (drop (length xs / 2) gs))

-- the later of two ends, where there is one
abbrev pub greater_end : Option End → Option End → Option End
greater_end None g = g
greater_end (Some e) None = Some e
greater_end (Some e) (Some f) = Some (later_end e f)

-- the entry's end, where the entry covers some instant
abbrev pub own_end : Entry → Option End
own_end e = if lasts e.span then Some e.span.end else None

-- past each instant that the second entry lasts past, the first does too
abbrev pub Outlasts : Entry → Entry → Type 0
Outlasts f e = (t : ℤ) → lasts_past e t ≡ true → lasts_past f t ≡ true

-- in order of their ends
abbrev pub IsByEnd : List Entry → Type 0
IsByEnd [] = ⊤
IsByEnd (e ∷ es) = AllByRecursion (λ f. Outlasts f e) es × IsByEnd es

-- the entries are in order of their ends, where it is said so, else under a tree of these
abbrev pub AreSearched : Bool → ℕ → List Entry → List (Option End) → Type 0
AreSearched true h es gs = IsByEnd es
AreSearched false h es gs = IsTree only 8 h es gs

-- that with enough levels
pub record HasEnds (by_end : Bool) (es : List Entry) (gs : List (Option End)) : Type 0 where
  pub levels : ℕ
  pub enough : length es ≤ 2 ^ levels
  pub searched : AreSearched by_end levels es gs
