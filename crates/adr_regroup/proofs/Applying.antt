-- The places of the resources to which an event applies.
use Rattle.std.proofs.Common.{◌≡◌, ℕ, zero, suc, ◌+◌, ◌≤◌, ◌<◌, ◌==◌, ◌||◌, ◌&&◌, Bool, true, false, cond, List, [], ◌∷◌, length, get_or, slice_get, filter, Option, Some, None, refl, ap, sym, ◌∙◌, arith, eqb-true, eq-eqb}
use Rattle.std.proofs.lemmas.Option.{slice_get_within}
use Rattle.std.proofs.lemmas.Bool.{both_ways, false_from_ne_true}
use Rattle.std.proofs.lemmas.List.FromFn.{get_or-range_with_len, length-range_with_len}
use Rattle.std.proofs.lemmas.List.Kept.{IsStrictlyIncreasing-filter}
use Rattle.std.proofs.lemmas.List.Sums.{count_by-le-length, length-filter}
use Rattle.std.specs.List.{range_with_len}
use Rattle.std.specs.List.Sorted.{IsStrictlyIncreasing}
use Rattle.std.specs.Option.{option_map_or, option_map, option_and_then}
use Rattle.adr_object.specs.declared.event.Event.{Event}
use Rattle.adr_object.specs.declared.party.Program.{Program}
use Rattle.adr_object.specs.declared.party.Ven.{Ven}
use Rattle.adr_object.specs.declared.party.Resource.{Resource}
use Rattle.adr_model.specs.Book.{Book, program_by, ven_by}
use Rattle.adr_model.specs.Governor.{applies_to}
use Rattle.adr_model.specs.Matching.{Scene, applies}
use Rattle.adr_audience.specs.Laws.{applies_in, applying_places}
use Rattle.adr_schedule.specs.Moves.{is_among}
use Rattle.adr_regroup.specs.Compared.{StandOnce}
use Rattle.adr_regroup.proofs.Sums.{range_stands}

-- ---- numbers of a range that pass

module _ (t : ℕ → Bool) where
  -- none stands before it
  none_before : (a n p : ℕ) → p < a → is_among (filter t (range_with_len a n)) p ≡ false
  none_before a zero p h = refl
  none_before a (suc n) p h = by (t a) (none_before (a + 1) n p (omega arith))
    where
      other : (a == p) ≡ false
      other = false_from_ne_true (a == p) (λ e. let s : a ≡ p = eqb-true a p e in omega arith)

      by : (b : Bool) → is_among (filter t (range_with_len (a + 1) n)) p ≡ false
          → is_among (cond b (a ∷ filter t (range_with_len (a + 1) n)) (filter t (range_with_len (a + 1) n))) p ≡ false
      by true rest = ap (λ c. c || is_among (filter t (range_with_len (a + 1) n)) p) other ∙ rest
      by false rest = rest

  -- each of it stands there just where it passes
  pub passes : (a n p : ℕ) → a ≤ p → p < a + n → is_among (filter t (range_with_len a n)) p ≡ t p
  passes a zero p h k = absurd (omega arith)
  passes a (suc n) p h k = by (a == p) refl (t a) refl (λ (e : a ≡ p → ⊥). passes (a + 1) n p (omega arith) (omega arith))
    where
      by : (s : Bool) → (a == p) ≡ s → (b : Bool) → t a ≡ b → ((a ≡ p → ⊥) → is_among (filter t (range_with_len (a + 1) n)) p ≡ t p)
          → is_among (cond b (a ∷ filter t (range_with_len (a + 1) n)) (filter t (range_with_len (a + 1) n))) p ≡ t p
      by true s true b rest = ap (λ c. c || is_among (filter t (range_with_len (a + 1) n)) p) s ∙ sym b ∙ ap t (eqb-true a p s)
      by true s false b rest = let e : a ≡ p = eqb-true a p s in none_before (a + 1) n p (omega arith) ∙ sym b ∙ ap t e
      by false s true b rest = ap (λ c. c || is_among (filter t (range_with_len (a + 1) n)) p) s ∙ rest (λ q. both_ways (a == p) s (eq-eqb a p q))
      by false s false b rest = rest (λ q. both_ways (a == p) s (eq-eqb a p q))

-- ---- where an event applies

-- the event and the resource with the ven, of each program
abbrev pub scenes : Event → Resource → Option Ven → Program → Option Scene
scenes event r o program = option_map (λ ven. record { program = program; event = event; ven = ven; resource = r }) o

-- the place of a resource is one of those to which an event of the program applies just where it applies to it
pub among_applying : (book : Book) (event : Event) (program : Program) (p : ℕ) (r : Resource) (n : ℕ)
    → program_by book event.program_id ≡ Some program → slice_get book.resources p ≡ Some r
    → is_among (applying_places book event program) p ≡ applies_to book r (record { event = event; written = n })
among_applying book event program p r n known at =
    let inside : p < length book.resources = slice_get_within book.resources p r at in
    passes (λ place. option_map_or (applies_in book event program) (slice_get book.resources place) false) 0 (length book.resources) p (omega arith) (omega arith)
    ∙ ap (λ (o : Option Resource). option_map_or (applies_in book event program) o false) at
    ∙ by (ven_by book r.ven_id)
    ∙ sym (ap (λ (o : Option Program). option_map_or applies (option_and_then (scenes event r (ven_by book r.ven_id)) o) false) known)
  where
    by : (o : Option Ven) → option_map_or (λ ven. applies (record { program = program; event = event; ven = ven; resource = r })) o false ≡ option_map_or applies (scenes event r o program) false
    by None = refl
    by (Some v) = refl

-- ---- those that are left of some

pub fewer : {X : Type 0} (p : X → Bool) (xs : List X) → length (filter p xs) ≤ length xs
fewer p xs = omega (arith, length-filter p xs, count_by-le-length p xs)

pub among_filter : (t : ℕ → Bool) (xs : List ℕ) (p : ℕ) → is_among (filter t xs) p ≡ (is_among xs p && t p)
among_filter t [] p = refl
among_filter t (x ∷ xs) p = by (x == p) refl (t x) refl (among_filter t xs p)
  where
    by : (s : Bool) → (x == p) ≡ s → (b : Bool) → t x ≡ b → is_among (filter t xs) p ≡ (is_among xs p && t p)
        → is_among (cond b (x ∷ filter t xs) (filter t xs)) p ≡ (((x == p) || is_among xs p) && t p)
    by true s true b rest = ap (λ c. c || is_among (filter t xs) p) s ∙ sym (ap (λ c. (c || is_among xs p) && t p) s ∙ ap t (sym (eqb-true x p s)) ∙ b)
    by true s false b rest = rest ∙ none (is_among xs p) (t p) (ap t (sym (eqb-true x p s)) ∙ b) ∙ sym (ap (λ c. (c || is_among xs p) && t p) s ∙ ap t (sym (eqb-true x p s)) ∙ b)
      where
        none : (a c : Bool) → c ≡ false → (a && c) ≡ false
        none true c e = e
        none false c e = refl
    by false s true b rest = ap (λ c. c || is_among (filter t xs) p) s ∙ rest ∙ sym (ap (λ c. (c || is_among xs p) && t p) s)
    by false s false b rest = rest ∙ sym (ap (λ c. (c || is_among xs p) && t p) s)

-- ---- they ascend

range_rises : (n : ℕ) → IsStrictlyIncreasing (range_with_len 0 n)
range_rises n k h =
    let l : length (range_with_len 0 n) ≡ n = length-range_with_len 0 n in
    let a : get_or (range_with_len 0 n) k 0 ≡ 0 + k = get_or-range_with_len 0 n k 0 (omega arith) in
    let b : get_or (range_with_len 0 n) (k + 1) 0 ≡ 0 + (k + 1) = get_or-range_with_len 0 n (k + 1) 0 (omega arith) in
    omega arith

pub applying_rise : (book : Book) (event : Event) (program : Program) → IsStrictlyIncreasing (applying_places book event program)
applying_rise book event program =
    IsStrictlyIncreasing-filter (λ place. option_map_or (applies_in book event program) (slice_get book.resources place) false) (range_with_len 0 (length book.resources)) (range_rises (length book.resources))

-- each stands once
pub applying_once : (book : Book) (event : Event) (program : Program) → StandOnce (applying_places book event program) (length book.resources)
applying_once book event program = range_stands (λ place. option_map_or (applies_in book event program) (slice_get book.resources place) false) (length book.resources)
