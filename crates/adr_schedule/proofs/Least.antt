-- How much a move of groups compares.
use Rattle.std.proofs.Common.{◌≡◌, ◌⊎◌, inl, inr, ℕ, ◌==◌, ◌+◌, ◌||◌, Bool, true, false, if◌then◌else◌, List, [], ◌∷◌, set, filter, slice_get, Option, Some, None, refl, ap, ap₂, sym, subst, ◌∙◌}
use Rattle.std.specs.Prelude.{option_to_list}
use Rattle.std.proofs.lemmas.List.Folds.{list_any-append}
use Rattle.adr_model.specs.declared.entry.Entry.{Entry}
use Rattle.adr_model.proofs.Lists.{filter-same}
use Rattle.adr_shared.specs.Map.{put, without}
use Rattle.adr_lines.specs.declared.grouped.TypeEntries.{TypeEntries}
use Rattle.adr_lines.specs.Right.{has_number, written_in}
use Rattle.adr_lines.specs.declared.indexes.Indexes.{Indexes}
use Rattle.adr_lines.specs.Indexes.{under}
use Rattle.adr_group.specs.Group.{Lines}
use Rattle.adr_group.specs.Repair.{most_inside, most_repaired}
use Rattle.adr_group.specs.Writes.{changed_number, is_number, stays}
use Rattle.adr_group.proofs.Numbers.{staying_has}
use Rattle.adr_schedule.specs.declared.change.Change.{Change}
use Rattle.adr_schedule.specs.Moves.{AreUnmoved, IsNext, IsSat, KeepsUnknown}
use Rattle.adr_schedule.specs.Seating.{shifted}
use Rattle.adr_schedule.specs.Shift.{kept_side, most_shifted, number_in, shifted_writes, sides_for, AreTwo}
use Rattle.adr_schedule.specs.Slots.{in_slot, is_taken}
use Rattle.adr_schedule.proofs.Numbered.{one_or_other, put_here, put_elsewhere, taken_elsewhere, set_here, set_elsewhere}
use Rattle.adr_schedule.proofs.Seated.{none_is_some, some_same}
use Rattle.adr_schedule.proofs.Variant.{changed_shifted}

-- ---- writes with the same numbers compare as much

module _ (writes others : List ℕ) (same : (n : ℕ) → has_number writes n ≡ has_number others n) where
  same_written : (entries : List Entry) → written_in writes entries ≡ written_in others entries
  same_written entries = filter-same (λ e. has_number writes e.rank.written) (λ e. has_number others e.rank.written) entries (λ e m. same e.rank.written)

  same_inside : (entries windows : List Entry) → most_inside writes entries windows ≡ most_inside others entries windows
  same_inside entries [] = refl
  same_inside entries (w ∷ windows) = rw (same_written entries, same_inside entries windows) refl

  pub same_repaired : (windows : List TypeEntries) (indexes : Indexes) → most_repaired windows writes indexes ≡ most_repaired windows others indexes
  same_repaired [] indexes = refl
  same_repaired (g ∷ windows) indexes = ap₂ (λ (m n : ℕ). m + n) (same_inside (under indexes g.payload_type) g.entries.items) (same_repaired windows indexes)

-- ---- what a group compares

-- the numbers of the writes after the change
pub shifted_has : (change : Change) (writes : List ℕ) (n : ℕ) → has_number (shifted_writes change writes) n ≡ shifted (number_in change.gone) (number_in change.come) (has_number writes n) n
shifted_has change writes n =
    list_any-append (λ x. x == n) (option_to_list (number_in change.come)) (filter (stays (number_in change.gone)) writes)
    ∙ ap₂ (λ (a b : Bool). a || b) (comes (number_in change.come)) (staying_has writes (number_in change.gone) n)
    ∙ by (is_number (number_in change.come) n)
  where
    comes : (o : Option ℕ) → has_number (option_to_list o) n ≡ is_number o n
    comes None = refl
    comes (Some x) = or_none (x == n)
      where
        or_none : (b : Bool) → (b || false) ≡ b
        or_none true = refl
        or_none false = refl

    by : (b : Bool) → (b || (if is_number (number_in change.gone) n then false else has_number writes n)) ≡ (if b then true else if is_number (number_in change.gone) n then false else has_number writes n)
    by true = refl
    by false = refl

pub repaired_shifted : (change : Change) (indexes : Indexes) (g : Lines) (writes : List ℕ) → AreTwo change
    → ((n : ℕ) → has_number writes n ≡ changed_number (number_in (kept_side true g.writes change.gone)) (number_in (kept_side false g.writes change.come)) g.writes n)
    → most_repaired (sides_for change g.writes) writes indexes ≡ most_shifted change indexes g
unfolding most_shifted
repaired_shifted change indexes g writes two numbers =
    same_repaired writes (shifted_writes change g.writes) (λ n. numbers n ∙ changed_shifted change g.writes two n ∙ sym (shifted_has change g.writes n)) (sides_for change g.writes) indexes

-- ---- the slots that stay unknown

module _ {G : Type 0} (values : List (List ℕ × G)) (slots : List (List ℕ × ℕ)) where
  keeps_stay : (slot : ℕ) → KeepsUnknown values slots values (put (slot ∷ []) slot slots)
  keeps_stay slot s k = by (one_or_other s slot)
    where
      by : (s ≡ slot) ⊎ (s ≡ slot → ⊥) → (in_slot slots s ≡ None) × (in_slot values s ≡ in_slot values s)
      by (inl e) = absurd (none_is_some slot (sym (subst (λ z. in_slot (put (slot ∷ []) slot slots) z ≡ None) e k) ∙ put_here slots slot slot))
      by (inr a) = (sym (put_elsewhere slots slot s slot a) ∙ k, refl)

  keeps_made : (slot next : ℕ) (h : G) → KeepsUnknown values slots (put (next ∷ []) h values) (put (next ∷ []) next (put (slot ∷ []) next slots))
  keeps_made slot next h s k = by (one_or_other s next) (one_or_other s slot)
    where
      by : (s ≡ next) ⊎ (s ≡ next → ⊥) → (s ≡ slot) ⊎ (s ≡ slot → ⊥) → (in_slot slots s ≡ None) × (in_slot (put (next ∷ []) h values) s ≡ in_slot values s)
      by (inl e) o = absurd (none_is_some next (sym (subst (λ z. in_slot (put (next ∷ []) next (put (slot ∷ []) next slots)) z ≡ None) e k) ∙ put_here (put (slot ∷ []) next slots) next next))
      by (inr a) (inl e) = absurd (none_is_some next (sym (subst (λ z. in_slot (put (slot ∷ []) next slots) z ≡ None) e (sym (put_elsewhere (put (slot ∷ []) next slots) next s next a) ∙ k)) ∙ put_here slots slot next))
      by (inr a) (inr b) = (sym (put_elsewhere slots slot s next b) ∙ sym (put_elsewhere (put (slot ∷ []) next slots) next s next a) ∙ k, put_elsewhere values next s h a)

  pub keeps_unknown : (after : List (List ℕ × G)) (later : List (List ℕ × ℕ)) (slot next : ℕ) (seats : List ℕ) (made : Option G)
      → (made ≡ None → (next ≡ slot) × (after ≡ values) × (later ≡ put (slot ∷ []) slot slots))
      → ((h : G) → made ≡ Some h → (is_taken seats next ≡ false) × (after ≡ put (next ∷ []) h values) × (later ≡ put (next ∷ []) next (put (slot ∷ []) next slots)))
      → KeepsUnknown values slots after later
  keeps_unknown after later slot next seats made kept parted = by made refl
    where
      by : (o : Option G) → made ≡ o → KeepsUnknown values slots after later
      by None e = let k = kept e in rw (k.1, k.2) (keeps_stay slot)
      by (Some h) e = let k = parted h e in rw (k.1, k.2) (keeps_made slot next h)

-- ---- the places that have them

module _ {G : Type 0} (P : G → G → Type 0) (seats others : List ℕ) (values after final : List (List ℕ × G)) (slots later : List (List ℕ × ℕ)) (place slot next : ℕ)
    (at : slice_get seats place ≡ Some slot) (n : IsNext P seats values after later slot next) (keeps : KeepsUnknown values slots after later) where
  pub sat_unmoved : IsSat seats place slot next after others final → AreUnmoved seats values slots others final later
  sat_unmoved (inl c) p s h k = let r = keeps s k in (subst (λ x. slice_get x p ≡ Some s) c.1 h, r.0, ap (λ v. in_slot v s) c.2 ∙ r.1)
  sat_unmoved (inr (a, e, f)) p s h k = by f (one_or_other p place)
    where
      at_set : slice_get (set seats place next) p ≡ Some s
      at_set = subst (λ x. slice_get x p ≡ Some s) e h

      apart_from : (x : ℕ) → in_slot later x ≡ Some next → s ≡ x → ⊥
      apart_from x known same = none_is_some next (sym (subst (λ z. in_slot later z ≡ None) same k) ∙ known)

      by : ((is_taken others slot ≡ true) × (final ≡ after)) ⊎ ((is_taken others slot ≡ false) × (final ≡ without (slot ∷ []) after)) → (p ≡ place) ⊎ (p ≡ place → ⊥)
          → (slice_get seats p ≡ Some s) × (in_slot slots s ≡ None) × (in_slot final s ≡ in_slot values s)
      by g (inl same) =
          absurd (apart_from next (n.stays slot next n.known) (sym (some_same next s (sym (set_here seats place slot next at) ∙ subst (λ z. slice_get (set seats place next) z ≡ Some s) same at_set))))
      by (inl g) (inr apart) = let r = keeps s k in (sym (set_elsewhere seats place p next apart) ∙ at_set, r.0, ap (λ v. in_slot v s) g.1 ∙ r.1)
      by (inr g) (inr apart) =
          let r = keeps s k in
          (sym (set_elsewhere seats place p next apart) ∙ at_set, r.0, ap (λ v. in_slot v s) g.1 ∙ taken_elsewhere after slot s (apart_from slot n.known) ∙ r.1)

module _ {G : Type 0} (seats : List ℕ) (values : List (List ℕ × G)) (slots : List (List ℕ × ℕ)) where
  pub none_unmoved : AreUnmoved seats values slots seats values slots
  none_unmoved p s h k = (h, k, refl)

  pub unmoved_passes : (mid others : List ℕ) (between after : List (List ℕ × G)) (known later : List (List ℕ × ℕ))
      → AreUnmoved seats values slots mid between known → AreUnmoved mid between known others after later → AreUnmoved seats values slots others after later
  unmoved_passes mid others between after known later a b p s h k = let y = b p s h k in let x = a p s y.0 y.1 in (x.0, x.1, y.2 ∙ x.2)
