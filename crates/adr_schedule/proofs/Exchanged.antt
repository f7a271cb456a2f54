-- Groups whose slots get what was made for them.
use Rattle.std.proofs.Common.{◌≡◌, ◌⊎◌, inl, inr, ℕ, ◌==◌, ◌||◌, Bool, true, false, if◌then◌else◌, List, [], ◌∷◌, slice_get, Option, Some, None, refl, ap, sym, subst, ◌∙◌, eqb-true, eq-eqb, ne_eqb}
use Rattle.std.specs.Prelude.{MatchOption}
use Rattle.std.specs.Option.{option_or}
use Rattle.adr_shared.specs.Map.{put}
use Rattle.adr_group.specs.Group.{Lines}
use Rattle.adr_schedule.specs.Moves.{is_among, AreMadeFor, AreMoved}
use Rattle.adr_schedule.specs.Seating.{Seating}
use Rattle.adr_schedule.specs.Slots.{in_slot, is_taken, value_at, AreSeated}
use Rattle.adr_schedule.specs.Tally.{AreAllOf}
use Rattle.adr_schedule.proofs.Numbered.{one_or_other, put_elsewhere, put_here}
use Rattle.adr_schedule.proofs.Seated.{at_slot, slot_of}

module _ {G : Type 0} where
  -- the value of a slot, where what was made for some slots is in them
  abbrev pub then_in : List ℕ → List (List ℕ × G) → List (List ℕ × G) → ℕ → Option G
  then_in slots made values s = if is_among slots s then option_or (in_slot made s) (in_slot values s) else in_slot values s

  -- what was made for one slot is in it
  pub in_one : (values made after : List (List ℕ × G)) (slot : ℕ) (g : G) → in_slot made slot ≡ Some g → after ≡ put (slot ∷ []) g values
      → (s : ℕ) → in_slot after s ≡ (if slot == s then option_or (in_slot made s) (in_slot values s) else in_slot values s)
  in_one values made after slot g there added s = by (one_or_other s slot)
    where
      by : (s ≡ slot) ⊎ (s ≡ slot → ⊥) → in_slot after s ≡ (if slot == s then option_or (in_slot made s) (in_slot values s) else in_slot values s)
      by (inl e) =
          let here : in_slot after s ≡ Some g = ap (λ m. in_slot m s) added ∙ ap (λ z. in_slot (put (slot ∷ []) g values) z) e ∙ put_here values slot g in
          let own : in_slot made s ≡ Some g = ap (λ z. in_slot made z) e ∙ there in
          here ∙ sym (rw (eq-eqb slot s (sym e), own) refl)
      by (inr apart) = ap (λ m. in_slot m s) added ∙ put_elsewhere values slot s g apart ∙ sym (rw (ne_eqb slot s (λ e. apart (sym e))) refl)

  -- or nothing was made for it
  pub in_none : (values made after : List (List ℕ × G)) (slot : ℕ) → in_slot made slot ≡ None → after ≡ values
      → (s : ℕ) → in_slot after s ≡ (if slot == s then option_or (in_slot made s) (in_slot values s) else in_slot values s)
  in_none values made after slot none same s = ap (λ m. in_slot m s) same ∙ by (slot == s) refl
    where
      by : (b : Bool) → (slot == s) ≡ b → in_slot values s ≡ (if b then option_or (in_slot made s) (in_slot values s) else in_slot values s)
      by false e = refl
      by true e = sym (ap (λ o. option_or o (in_slot values s)) (subst (λ z. in_slot made z ≡ None) (eqb-true slot s e) none))

  -- one slot after the other
  pub next_in : (values made after : List (List ℕ × G)) (slot : ℕ) (more : List ℕ)
      → ((s : ℕ) → in_slot after s ≡ (if slot == s then option_or (in_slot made s) (in_slot values s) else in_slot values s))
      → (s : ℕ) → then_in more made after s ≡ then_in (slot ∷ more) made values s
  next_in values made after slot more one s = by (is_among more s) (slot == s) (one s)
    where
      twice : (a b : Option G) → option_or a (option_or a b) ≡ option_or a b
      twice None b = refl
      twice (Some x) b = refl

      by : (m here : Bool) → in_slot after s ≡ (if here then option_or (in_slot made s) (in_slot values s) else in_slot values s)
          → (if m then option_or (in_slot made s) (in_slot after s) else in_slot after s) ≡ (if here || m then option_or (in_slot made s) (in_slot values s) else in_slot values s)
      by true true h = ap (λ o. option_or (in_slot made s) o) h ∙ twice (in_slot made s) (in_slot values s)
      by true false h = ap (λ o. option_or (in_slot made s) o) h
      by false true h = h
      by false false h = h

  module _ (seats slots : List ℕ) (values made after : List (List ℕ × G)) (exchanged : (s : ℕ) → in_slot after s ≡ then_in slots made values s) where
    -- each place has a value still, and each value is some place's
    pub still_seated : ((s : ℕ) → is_among slots s ≡ true → is_taken seats s ≡ true) → AreSeated seats values → AreSeated seats after
    still_seated taken old = record {
      held = λ p s at. let h = old.held p s at in held s h.0 h.1 (is_among slots s) (in_slot made s) (exchanged s);
      taken = λ s g k. is_there s g k (is_among slots s) refl (exchanged s);
    }
      where
        held : (s : ℕ) (g : G) → in_slot values s ≡ Some g → (b : Bool) (o : Option G) → in_slot after s ≡ (if b then option_or o (in_slot values s) else in_slot values s) → (h : G) × (in_slot after s ≡ Some h)
        held s g k true (Some h) e = (h, e)
        held s g k true None e = (g, e ∙ k)
        held s g k false o e = (g, e ∙ k)

        is_there : (s : ℕ) (g : G) → in_slot after s ≡ Some g → (b : Bool) → is_among slots s ≡ b → in_slot after s ≡ (if b then option_or (in_slot made s) (in_slot values s) else in_slot values s) → is_taken seats s ≡ true
        is_there s g k true m e = taken s m
        is_there s g k false m e = old.taken s g (sym e ∙ k)

    -- and the places, which are all that have the slots, have what was made
    pub all_moved : (P : G → G → Type 0) (places : List ℕ) → AreAllOf seats places slots → AreMadeFor P places seats values made → AreMoved P (is_among places) seats values seats after
    all_moved P places all are = record {
      count = refl;
      now = λ p g at. let s = slot_of seats values p g at in by p g s.0 s.1 s.2 (is_among places p) refl (in_slot made s.0) refl;
    }
      where
        by : (p : ℕ) (g : G) (s : ℕ) → slice_get seats p ≡ Some s → in_slot values s ≡ Some g → (b : Bool) → is_among places p ≡ b → (o : Option G) → in_slot made s ≡ o
            → (h : G) × (value_at seats after p ≡ Some h) × (is_among places p ≡ true → P g h) × (is_among places p ≡ false → g ≡ h)
        by p g s at here false m o k =
            (g, at_slot seats after p s at ∙ exchanged s ∙ rw (all.each p s at ∙ m) here, (λ e. absurd (cc)), (λ e. refl))
        by p g s at here true m None k = (
          g,
          at_slot seats after p s at ∙ exchanged s ∙ rw (all.each p s at ∙ m, k) here,
          (λ e. subst (λ x. MatchOption x (P g g) (λ h. P g h)) k (are p s m at g here)),
          (λ e. absurd (cc)),
        )
        by p g s at here true m (Some h) k = (
          h,
          at_slot seats after p s at ∙ exchanged s ∙ rw (all.each p s at ∙ m, k) refl,
          (λ e. subst (λ x. MatchOption x (P g g) (λ h. P g h)) k (are p s m at g here)),
          (λ e. absurd (cc)),
        )

-- the same of a schedule that contracts see so
pub moved_as : (P : Lines → Lines → Type 0) (s seen : Seating) → seen ≡ s → (places slots : List ℕ) (made after : List (List ℕ × Lines))
    → ((slot : ℕ) → in_slot after slot ≡ then_in slots made s.groups slot)
    → AreAllOf seen.seats places slots → AreMadeFor P places seen.seats seen.groups made → AreMoved P (is_among places) s.seats s.groups s.seats after
moved_as P s seen is places slots made after exchanged all are =
    all_moved s.seats slots s.groups made after exchanged P places
    (subst (λ (x : Seating). AreAllOf x.seats places slots) is all) (subst (λ (x : Seating). AreMadeFor P places x.seats x.groups made) is are)
