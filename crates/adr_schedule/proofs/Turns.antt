-- One step of a move of groups.
use Rattle.std.proofs.Common.{◌≡◌, ℕ, ◌==◌, ◌||◌, Bool, true, false, List, [], ◌∷◌, slice_get, Option, Some, None, refl, sym, subst, ◌∙◌, eq-eqb}
use Rattle.std.specs.Prelude.{MatchOption}
use Rattle.adr_shared.specs.Map.{put}
use Rattle.adr_group.specs.Group.{Lines}
use Rattle.adr_lines.specs.declared.indexes.Indexes.{Indexes}
use Rattle.adr_schedule.specs.declared.change.Change.{Change}
use Rattle.adr_schedule.specs.Moves.{is_among, AreMadeFor, AreMoved, AreMoving, AreUnmoved, HasMoved, IsMadeAt, IsNext}
use Rattle.adr_schedule.specs.Shift.{Becomes}
use Rattle.adr_schedule.specs.Slots.{in_slot, is_taken, AreSeated}
use Rattle.adr_schedule.proofs.Least.{none_unmoved, unmoved_passes}
use Rattle.adr_schedule.proofs.Seated.{first_moved, next_made, next_stays, none_is_some, none_moved}
use Rattle.adr_schedule.proofs.Variant.{becomes_still}

module _ (change : Change) (indexes : Indexes) (seats : List ℕ) (values after : List (List ℕ × Lines)) (slots later : List (List ℕ × ℕ)) (slot next : ℕ) (made : Option Lines) where
  -- the members of a slot that was not looked at go where their group is made, or stay where nothing is
  pub next_of : in_slot slots slot ≡ None
      → ((g : Lines) → in_slot values slot ≡ Some g → MatchOption made (Becomes change indexes g g) (λ h. Becomes change indexes g h))
      → (in_slot values slot ≡ None → made ≡ None)
      → (made ≡ None → (next ≡ slot) × (after ≡ values) × (later ≡ put (slot ∷ []) slot slots))
      → ((h : Lines) → made ≡ Some h → (is_taken seats next ≡ false) × (after ≡ put (next ∷ []) h values) × (later ≡ put (next ∷ []) next (put (slot ∷ []) next slots)))
      → AreMoving (Becomes change indexes) seats values slots → IsNext (Becomes change indexes) seats values after later slot next
  next_of none becomes nothing kept parted m = by made refl (in_slot values slot) refl
    where
      stays : made ≡ None → IsNext (Becomes change indexes) seats values after later slot next
      stays e =
          let k = kept e in
          rw (k.0, k.1, k.2)
          (next_stays (Becomes change indexes) seats values slots m slot none (λ g here. subst (λ o. MatchOption o (Becomes change indexes g g) (λ h. Becomes change indexes g h)) e (becomes g here)))

      by : (o : Option Lines) → made ≡ o → (v : Option Lines) → in_slot values slot ≡ v → IsNext (Becomes change indexes) seats values after later slot next
      by None e v f = stays e
      by (Some h) e None f = stays (nothing f)
      by (Some h) e (Some g) f =
          let k = parted h e in
          let b : Becomes change indexes g h = subst (λ o. MatchOption o (Becomes change indexes g g) (λ h. Becomes change indexes g h)) e (becomes g f) in
          rw (k.1, k.2) (next_made (Becomes change indexes) seats values slots m slot next g h none f k.0 b (becomes_still change indexes g h b))

-- ---- one place after the other

-- some places have moved, and some are left
pub record AreUnderway {G : Type 0} (P : G → G → Type 0) (places rest : List ℕ) (seats : List ℕ) (values : List (List ℕ × G)) (others : List ℕ) (after : List (List ℕ × G)) (slots : List (List ℕ × ℕ)) : Type 0 where
  pub moving : AreMoving P others after slots
  pub unmoved : AreUnmoved seats values [] others after slots
  pub within : (p : ℕ) → is_among rest p ≡ true → is_among places p ≡ true
  pub moves : (final : List ℕ) (last : List (List ℕ × G)) → AreMoved P (is_among rest) others after final last → AreMoved P (is_among places) seats values final last

module _ {G : Type 0} (P : G → G → Type 0) (places : List ℕ) (seats : List ℕ) (values : List (List ℕ × G)) where
  -- no place has moved
  pub begins : (slots : List (List ℕ × ℕ)) → slots ≡ [] → AreSeated seats values → AreUnderway P places places seats values seats values slots
  begins slots none seated = record {
    moving = record {
      seated = seated;
      goes = λ s t g k l. absurd (none_is_some t (subst (λ z. in_slot z s ≡ Some t) none k));
      stays = λ s t k. absurd (none_is_some t (subst (λ z. in_slot z s ≡ Some t) none k));
    };
    unmoved = subst (λ z. AreUnmoved seats values [] seats values z) (sym none) (none_unmoved seats values []);
    within = λ p m. m;
    moves = λ final last m. m;
  }

  module _ (made : List (List ℕ × G)) (for_all : AreMadeFor P places seats values made) (others : List ℕ) (after : List (List ℕ × G)) (slots : List (List ℕ × ℕ)) (rest more : List ℕ) (place : ℕ)
      (is : rest ≡ place ∷ more) (u : AreUnderway P places rest seats values others after slots) where
    -- what was made for the next place's slot was made of what it has
    pub made_next : (slot : ℕ) → slice_get others place ≡ Some slot → in_slot slots slot ≡ None → IsMadeAt P after made slot
    made_next slot at none g here =
        let same = u.unmoved place slot at none in
        for_all place slot (u.within place (subst (λ l. is_among l place ≡ true) (sym is) (or_true (place == place) (is_among more place) (eq-eqb place place refl)))) same.0 g (sym same.2 ∙ here)
      where
        or_true : (a b : Bool) → a ≡ true → (a || b) ≡ true
        or_true true b e = refl
        or_true false b e = absurd (cc)

    -- the next place moves
    pub one_moves : ((f g h : G) → P f g → P g h → P f h) → (mid : List ℕ) (between : List (List ℕ × G)) (later : List (List ℕ × ℕ))
        → HasMoved P (is_among (place ∷ [])) others after slots mid between later
        → AreUnderway P places more seats values mid between later
    one_moves passes mid between later m = record {
      moving = m.moving;
      unmoved = unmoved_passes seats values [] others mid after between slots later u.unmoved m.unmoved;
      within = λ p k. u.within p (subst (λ l. is_among l p ≡ true) (sym is) (or_right (place == p) (is_among more p) k));
      moves = λ final last moved. u.moves final last (subst (λ l. AreMoved P (is_among l) others after final last) (sym is) (first_moved P passes place more others mid final after between last m.moved moved));
    }
      where
        or_right : (a b : Bool) → b ≡ true → (a || b) ≡ true
        or_right true b e = refl
        or_right false b e = e

  -- all have moved
  pub ends : (others : List ℕ) (after : List (List ℕ × G)) (slots : List (List ℕ × ℕ)) (rest : List ℕ) → rest ≡ [] → AreUnderway P places rest seats values others after slots
      → HasMoved P (is_among places) seats values [] others after slots
  ends others after slots rest none u = record {
    moving = u.moving;
    unmoved = u.unmoved;
    moved = u.moves others after (subst (λ l. AreMoved P (is_among l) others after others after) (sym none) (none_moved P others after));
  }
