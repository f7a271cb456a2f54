-- A place moves to another slot.
use Rattle.std.proofs.Common.{◌≡◌, ℕ, ◌==◌, ◌||◌, ◌⊎◌, inl, inr, Bool, true, false, List, [], ◌∷◌, set, slice_get, Option, Some, None, refl, ap, sym, subst, ◌∙◌, eq-eqb, eqb-true}
use Rattle.std.proofs.lemmas.Bool.{both_ways}
use Rattle.std.specs.Option.{option_and_then}
use Rattle.adr_shared.specs.Map.{put, without}
use Rattle.adr_schedule.specs.Moves.{is_among, AreMoved, AreMoving, IsNext, IsSat}
use Rattle.adr_schedule.specs.Slots.{in_slot, is_taken, value_at, AreSeated}
use Rattle.adr_schedule.proofs.Numbered.{one_or_other, put_here, put_elsewhere, taken_here, taken_elsewhere, set_here, set_elsewhere, set_count, has_place, place_of_taken}

module _ {G : Type 0} where
  pub some_same : (x y : G) → Some x ≡ Some y → x ≡ y
  some_same x y h = cc

  pub none_is_some : (x : G) → None ≡ Some x → ⊥
  none_is_some x h = absurd (cc)

  -- what a place's value is, by its slot
  pub at_slot : (seats : List ℕ) (values : List (List ℕ × G)) (p s : ℕ) → slice_get seats p ≡ Some s → value_at seats values p ≡ in_slot values s
  at_slot seats values p s h = ap (λ o. option_and_then (λ slot. in_slot values slot) o) h

  pub slot_of : (seats : List ℕ) (values : List (List ℕ × G)) (p : ℕ) (g : G) → value_at seats values p ≡ Some g → (s : ℕ) × (slice_get seats p ≡ Some s) × (in_slot values s ≡ Some g)
  slot_of seats values p g h = by (slice_get seats p) refl h
    where
      by : (o : Option ℕ) → slice_get seats p ≡ o → option_and_then (λ slot. in_slot values slot) o ≡ Some g → (s : ℕ) × (slice_get seats p ≡ Some s) × (in_slot values s ≡ Some g)
      by None e k = absurd (cc)
      by (Some s) e k = (s, e, k)

module _ {G : Type 0} (P : G → G → Type 0) (seats : List ℕ) (values : List (List ℕ × G)) (slots : List (List ℕ × ℕ)) (m : AreMoving P seats values slots) where
  -- the members of the slot stay
  pub next_stays : (slot : ℕ) → in_slot slots slot ≡ None → ((g : G) → in_slot values slot ≡ Some g → P g g)
      → IsNext P seats values values (put (slot ∷ []) slot slots) slot slot
  next_stays slot none same = record {
    grows = λ s g k. k;
    fresh = λ s g k. inr (m.seated.taken s g k);
    goes = λ s t g h k. goes s t g h k (one_or_other s slot);
    stays = λ s t h. stays s t h (one_or_other s slot);
    known = put_here slots slot slot;
  }
    where
      goes : (s t : ℕ) (g : G) → in_slot (put (slot ∷ []) slot slots) s ≡ Some t → in_slot values s ≡ Some g → (s ≡ slot) ⊎ (s ≡ slot → ⊥) → (h : G) × (in_slot values t ≡ Some h) × P g h
      goes s t g h k (inl e) =
          let target : slot ≡ t = some_same slot t (sym (put_here slots slot slot) ∙ subst (λ x. in_slot (put (slot ∷ []) slot slots) x ≡ Some t) e h) in
          let here : in_slot values slot ≡ Some g = subst (λ x. in_slot values x ≡ Some g) e k in
          (g, subst (λ x. in_slot values x ≡ Some g) target here, same g here)
      goes s t g h k (inr apart) = m.goes s t g (sym (put_elsewhere slots slot s slot apart) ∙ h) k

      still : (t : ℕ) → in_slot slots t ≡ Some t → (t ≡ slot) ⊎ (t ≡ slot → ⊥) → in_slot (put (slot ∷ []) slot slots) t ≡ Some t
      still t h (inl e) = absurd (none_is_some slot (sym none ∙ subst (λ x. in_slot slots x ≡ Some x) e h))
      still t h (inr apart) = put_elsewhere slots slot t slot apart ∙ h

      stays : (s t : ℕ) → in_slot (put (slot ∷ []) slot slots) s ≡ Some t → (s ≡ slot) ⊎ (s ≡ slot → ⊥) → in_slot (put (slot ∷ []) slot slots) t ≡ Some t
      stays s t h (inl e) =
          let target : slot ≡ t = some_same slot t (sym (put_here slots slot slot) ∙ subst (λ x. in_slot (put (slot ∷ []) slot slots) x ≡ Some t) e h) in
          subst (λ x. in_slot (put (slot ∷ []) slot slots) x ≡ Some x) target (put_here slots slot slot)
      stays s t h (inr apart) = let old = sym (put_elsewhere slots slot s slot apart) ∙ h in still t (m.stays s t old) (one_or_other t slot)

  -- the members of the slot go to a value of their own, in a slot that was free
  module _ (slot free : ℕ) (g h : G) (none : in_slot slots slot ≡ None) (here : in_slot values slot ≡ Some g) (untaken : is_taken seats free ≡ false) (made : P g h) (again : P h h) where
    abbrev pub later : List (List ℕ × G)
    later = put (free ∷ []) h values

    abbrev pub known : List (List ℕ × ℕ)
    known = put (free ∷ []) free (put (slot ∷ []) free slots)

    not_free : (s : ℕ) (x : G) → in_slot values s ≡ Some x → s ≡ free → ⊥
    not_free s x k e = both_ways (is_taken seats free) untaken (subst (λ y. is_taken seats y ≡ true) e (m.seated.taken s x k))

    grows : (s : ℕ) (x : G) → in_slot values s ≡ Some x → in_slot later s ≡ Some x
    grows s x k = put_elsewhere values free s h (not_free s x k) ∙ k

    fresh : (s : ℕ) (x : G) → in_slot later s ≡ Some x → (s ≡ free) ⊎ (s ≡ free → ⊥) → (s ≡ free) ⊎ (is_taken seats s ≡ true)
    fresh s x k (inl e) = inl e
    fresh s x k (inr apart) = inr (m.seated.taken s x (sym (put_elsewhere values free s h apart) ∙ k))

    known_free : in_slot known free ≡ Some free
    known_free = put_here (put (slot ∷ []) free slots) free free

    known_slot : in_slot known slot ≡ Some free
    known_slot = put_elsewhere (put (slot ∷ []) free slots) free slot free (not_free slot g here) ∙ put_here slots slot free

    known_other : (s : ℕ) → (s ≡ free → ⊥) → (s ≡ slot → ⊥) → in_slot known s ≡ in_slot slots s
    known_other s a b = put_elsewhere (put (slot ∷ []) free slots) free s free a ∙ put_elsewhere slots slot s free b

    -- the three cases of a slot
    abbrev Case : ℕ → Type 0
    Case s = (s ≡ free) ⊎ (((s ≡ free → ⊥) × (s ≡ slot)) ⊎ ((s ≡ free → ⊥) × (s ≡ slot → ⊥)))

    case_of : (s : ℕ) → Case s
    case_of s = by (one_or_other s free) (one_or_other s slot)
      where
        by : (s ≡ free) ⊎ (s ≡ free → ⊥) → (s ≡ slot) ⊎ (s ≡ slot → ⊥) → Case s
        by (inl e) o = inl e
        by (inr a) (inl e) = inr (inl (a, e))
        by (inr a) (inr b) = inr (inr (a, b))

    goes : (s t : ℕ) (x : G) → in_slot known s ≡ Some t → in_slot later s ≡ Some x → Case s → (y : G) × (in_slot later t ≡ Some y) × P x y
    goes s t x k l (inl e) =
        let target : free ≡ t = some_same free t (sym known_free ∙ subst (λ z. in_slot known z ≡ Some t) e k) in
        let value : h ≡ x = some_same h x (sym (put_here values free h) ∙ subst (λ z. in_slot later z ≡ Some x) e l) in
        (h, subst (λ z. in_slot later z ≡ Some h) target (put_here values free h), subst (λ z. P z h) value again)
    goes s t x k l (inr (inl c)) =
        let target : free ≡ t = some_same free t (sym known_slot ∙ subst (λ z. in_slot known z ≡ Some t) c.1 k) in
        let value : g ≡ x = some_same g x (sym here ∙ sym (put_elsewhere values free slot h (not_free slot g here)) ∙ subst (λ z. in_slot later z ≡ Some x) c.1 l) in
        (h, subst (λ z. in_slot later z ≡ Some h) target (put_here values free h), subst (λ z. P z h) value made)
    goes s t x k l (inr (inr c)) =
        let r = m.goes s t x (sym (known_other s c.0 c.1) ∙ k) (sym (put_elsewhere values free s h c.0) ∙ l) in
        (r.0, grows t r.0 r.1, r.2)

    still : (t : ℕ) → in_slot slots t ≡ Some t → Case t → in_slot known t ≡ Some t
    still t k (inl e) = subst (λ z. in_slot known z ≡ Some z) (sym e) known_free
    still t k (inr (inl c)) = absurd (none_is_some slot (sym none ∙ subst (λ z. in_slot slots z ≡ Some z) c.1 k))
    still t k (inr (inr c)) = known_other t c.0 c.1 ∙ k

    stays : (s t : ℕ) → in_slot known s ≡ Some t → Case s → in_slot known t ≡ Some t
    stays s t k (inl e) =
        let target : free ≡ t = some_same free t (sym known_free ∙ subst (λ z. in_slot known z ≡ Some t) e k) in
        subst (λ z. in_slot known z ≡ Some z) target known_free
    stays s t k (inr (inl c)) =
        let target : free ≡ t = some_same free t (sym known_slot ∙ subst (λ z. in_slot known z ≡ Some t) c.1 k) in
        subst (λ z. in_slot known z ≡ Some z) target known_free
    stays s t k (inr (inr c)) = still t (m.stays s t (sym (known_other s c.0 c.1) ∙ k)) (case_of t)

    pub next_made : IsNext P seats values later known slot free
    next_made = record {
      grows = grows;
      fresh = λ s x k. fresh s x k (one_or_other s free);
      goes = λ s t x k l. goes s t x k l (case_of s);
      stays = λ s t k. stays s t k (case_of s);
      known = known_slot;
    }

single : (a b : ℕ) → is_among (a ∷ []) b ≡ true → a ≡ b
single a b h = by (a == b) refl h
  where
    by : (x : Bool) → (a == b) ≡ x → (x || false) ≡ true → a ≡ b
    by true e k = eqb-true a b e
    by false e k = absurd (cc)

own : (a : ℕ) → is_among (a ∷ []) a ≡ false → ⊥
own a h = both_ways (is_among (a ∷ []) a) h (rw (eq-eqb a a refl) refl)

-- a place of the slot takes the next one
module _ {G : Type 0} (P : G → G → Type 0) (seats : List ℕ) (values : List (List ℕ × G)) (after : List (List ℕ × G)) (slots : List (List ℕ × ℕ)) (place slot next : ℕ)
    (at : slice_get seats place ≡ Some slot) (old : AreSeated seats values) (n : IsNext P seats values after slots slot next) where
  abbrev pub moved : List ℕ
  moved = set seats place next

  -- what the place finds there
  found : (g : G) → in_slot values slot ≡ Some g → (h : G) × (in_slot after next ≡ Some h) × P g h
  found g k = n.goes slot next g n.known (n.grows slot g k)

  -- it stays where it is
  module _ (same : next ≡ slot) where
    pub stay_moving : AreMoving P seats after slots
    stay_moving = record {
      seated = record {
        held = λ p s k. let r = old.held p s k in (r.0, n.grows s r.0 r.1);
        taken = λ s g k. taken s (n.fresh s g k);
      };
      goes = n.goes;
      stays = n.stays;
    }
      where
        taken : (s : ℕ) → (s ≡ next) ⊎ (is_taken seats s ≡ true) → is_taken seats s ≡ true
        taken s (inl e) = has_place seats place s (at ∙ ap (λ x. Some x) (sym (e ∙ same)))
        taken s (inr t) = t

    pub stay_moved : AreMoved P (is_among (place ∷ [])) seats values seats after
    stay_moved = record {
      count = refl;
      now = λ p g k. now p g k (one_or_other place p);
    }
      where
        now : (p : ℕ) (g : G) → value_at seats values p ≡ Some g → (place ≡ p) ⊎ (place ≡ p → ⊥) → (h : G) × (value_at seats after p ≡ Some h) × (is_among (place ∷ []) p ≡ true → P g h) × (is_among (place ∷ []) p ≡ false → g ≡ h)
        now p g k (inl e) =
            let s = slot_of seats values p g k in
            let own : s.0 ≡ slot = some_same s.0 slot (sym s.1 ∙ subst (λ z. slice_get seats z ≡ Some slot) e at) in
            let f = found g (subst (λ z. in_slot values z ≡ Some g) own s.2) in
            let there : in_slot after next ≡ Some g = ap (λ z. in_slot after z) same ∙ n.grows slot g (subst (λ z. in_slot values z ≡ Some g) own s.2) in
            let one : f.0 ≡ g = some_same f.0 g (sym f.1 ∙ there) in
            (g, at_slot seats after p s.0 s.1 ∙ n.grows s.0 g s.2, (λ b. subst (λ z. P g z) one f.2), λ b. refl)
        now p g k (inr apart) =
            let s = slot_of seats values p g k in
            (g, at_slot seats after p s.0 s.1 ∙ n.grows s.0 g s.2, (λ b. absurd (apart (single place p b))), λ b. refl)

  -- it leaves its slot
  module _ (apart : next ≡ slot → ⊥) where
    moved_here : slice_get moved place ≡ Some next
    moved_here = set_here seats place slot next at

    moved_other : (p : ℕ) → (p ≡ place → ⊥) → slice_get moved p ≡ slice_get seats p
    moved_other p a = set_elsewhere seats place p next a

    -- where each place sits then, and with which value
    held : (p s : ℕ) → slice_get moved p ≡ Some s → (p ≡ place) ⊎ (p ≡ place → ⊥) → (g : G) × (in_slot after s ≡ Some g)
    held p s k (inl e) =
        let own : next ≡ s = some_same next s (sym moved_here ∙ subst (λ z. slice_get moved z ≡ Some s) e k) in
        let g = old.held place slot at in
        let f = found g.0 g.1 in
        (f.0, subst (λ z. in_slot after z ≡ Some f.0) own f.1)
    held p s k (inr a) = let g = old.held p s (sym (moved_other p a) ∙ k) in (g.0, n.grows s g.0 g.1)

    -- a slot that was taken is taken still, but for the one that the place left
    taken : (s : ℕ) → (s ≡ slot → ⊥) → (s ≡ next) ⊎ (is_taken seats s ≡ true) → is_taken moved s ≡ true
    taken s b (inl e) = has_place moved place s (moved_here ∙ ap (λ x. Some x) (sym e))
    taken s b (inr t) = let q = place_of_taken seats s t in by q.0 q.1 (one_or_other q.0 place)
      where
        by : (q : ℕ) → slice_get seats q ≡ Some s → (q ≡ place) ⊎ (q ≡ place → ⊥) → is_taken moved s ≡ true
        by q k (inl e) = absurd (b (some_same s slot (sym k ∙ subst (λ z. slice_get seats z ≡ Some slot) (sym e) at)))
        by q k (inr a) = has_place moved q s (moved_other q a ∙ k)

    -- others have the slot still
    module _ (kept : is_taken moved slot ≡ true) where
      pub kept_moving : AreMoving P moved after slots
      kept_moving = record {
        seated = record {
          held = λ p s k. held p s k (one_or_other p place);
          taken = λ s g k. by s (one_or_other s slot) (n.fresh s g k);
        };
        goes = n.goes;
        stays = n.stays;
      }
        where
          by : (s : ℕ) → (s ≡ slot) ⊎ (s ≡ slot → ⊥) → (s ≡ next) ⊎ (is_taken seats s ≡ true) → is_taken moved s ≡ true
          by s (inl e) f = subst (λ z. is_taken moved z ≡ true) (sym e) kept
          by s (inr a) f = taken s a f

      pub kept_moved : AreMoved P (is_among (place ∷ [])) seats values moved after
      kept_moved = record {
        count = set_count seats place next;
        now = λ p g k. now p g k (one_or_other place p);
      }
        where
          now : (p : ℕ) (g : G) → value_at seats values p ≡ Some g → (place ≡ p) ⊎ (place ≡ p → ⊥) → (h : G) × (value_at moved after p ≡ Some h) × (is_among (place ∷ []) p ≡ true → P g h) × (is_among (place ∷ []) p ≡ false → g ≡ h)
          now p g k (inl e) =
              let s = slot_of seats values p g k in
              let mine : s.0 ≡ slot = some_same s.0 slot (sym s.1 ∙ subst (λ z. slice_get seats z ≡ Some slot) e at) in
              let f = found g (subst (λ z. in_slot values z ≡ Some g) mine s.2) in
              (f.0, at_slot moved after p next (subst (λ z. slice_get moved z ≡ Some next) e moved_here) ∙ f.1, (λ b. f.2), λ b. absurd (own p (subst (λ z. is_among (z ∷ []) p ≡ false) e b)))
          now p g k (inr a) =
              let s = slot_of seats values p g k in
              (g, at_slot moved after p s.0 (moved_other p (λ e. a (sym e)) ∙ s.1) ∙ n.grows s.0 g s.2, (λ b. absurd (a (single place p b))), λ b. refl)

    -- it was the last one of the slot, whose value goes
    module _ (left : is_taken moved slot ≡ false) where
      abbrev pub dropped : List (List ℕ × G)
      dropped = without (slot ∷ []) after

      not_slot : (p s : ℕ) → slice_get moved p ≡ Some s → s ≡ slot → ⊥
      not_slot p s k e = both_ways (is_taken moved slot) left (has_place moved p slot (k ∙ ap (λ x. Some x) e))

      remaining : (s : ℕ) (g : G) → in_slot dropped s ≡ Some g → (s ≡ slot → ⊥) × (in_slot after s ≡ Some g)
      remaining s g k = by (one_or_other s slot)
        where
          by : (s ≡ slot) ⊎ (s ≡ slot → ⊥) → (s ≡ slot → ⊥) × (in_slot after s ≡ Some g)
          by (inl e) = absurd (none_is_some g (sym (taken_here after slot) ∙ subst (λ z. in_slot dropped z ≡ Some g) e k))
          by (inr a) = (a, sym (taken_elsewhere after slot s a) ∙ k)

      pub dropped_moving : AreMoving P moved dropped slots
      dropped_moving = record {
        seated = record {
          held = λ p s k. let g = held p s k (one_or_other p place) in (g.0, taken_elsewhere after slot s (not_slot p s k) ∙ g.1);
          taken = λ s g k. let r = remaining s g k in taken s r.0 (n.fresh s g r.1);
        };
        goes = λ s t g k l. goes s t g k (remaining s g l).1;
        stays = n.stays;
      }
        where
          goes : (s t : ℕ) (g : G) → in_slot slots s ≡ Some t → in_slot after s ≡ Some g → (h : G) × (in_slot dropped t ≡ Some h) × P g h
          goes s t g k l = let r = n.goes s t g k l in (r.0, taken_elsewhere after slot t (not_left t (n.stays s t k)) ∙ r.1, r.2)
            where
              not_left : (t : ℕ) → in_slot slots t ≡ Some t → t ≡ slot → ⊥
              not_left t u e = apart (some_same next slot (sym n.known ∙ subst (λ z. in_slot slots z ≡ Some z) e u))

      pub dropped_moved : AreMoved P (is_among (place ∷ [])) seats values moved dropped
      dropped_moved = record {
        count = set_count seats place next;
        now = λ p g k. now p g k (one_or_other place p);
      }
        where
          now : (p : ℕ) (g : G) → value_at seats values p ≡ Some g → (place ≡ p) ⊎ (place ≡ p → ⊥) → (h : G) × (value_at moved dropped p ≡ Some h) × (is_among (place ∷ []) p ≡ true → P g h) × (is_among (place ∷ []) p ≡ false → g ≡ h)
          now p g k (inl e) =
              let s = slot_of seats values p g k in
              let mine : s.0 ≡ slot = some_same s.0 slot (sym s.1 ∙ subst (λ z. slice_get seats z ≡ Some slot) e at) in
              let f = found g (subst (λ z. in_slot values z ≡ Some g) mine s.2) in
              (f.0, at_slot moved dropped p next (subst (λ z. slice_get moved z ≡ Some next) e moved_here) ∙ taken_elsewhere after slot next apart ∙ f.1, (λ b. f.2), λ b. absurd (own p (subst (λ z. is_among (z ∷ []) p ≡ false) e b)))
          now p g k (inr a) =
              let s = slot_of seats values p g k in
              let there : slice_get moved p ≡ Some s.0 = moved_other p (λ e. a (sym e)) ∙ s.1 in
              (g, at_slot moved dropped p s.0 there ∙ taken_elsewhere after slot s.0 (not_slot p s.0 there) ∙ n.grows s.0 g s.2, (λ b. absurd (a (single place p b))), λ b. refl)

-- ---- one place after the other

module _ {G : Type 0} (P : G → G → Type 0) where
  -- nothing moves
  pub none_moved : (seats : List ℕ) (values : List (List ℕ × G)) → AreMoved P (is_among []) seats values seats values
  none_moved seats values = record {
    count = refl;
    now = λ p g k. (g, k, (λ b. absurd (both_ways false refl b)), λ b. refl);
  }

  -- the first place, then the others
  pub first_moved : ((f g h : G) → P f g → P g h → P f h) → (place : ℕ) (places : List ℕ)
      (seats mid others : List ℕ) (values between after : List (List ℕ × G))
      → AreMoved P (is_among (place ∷ [])) seats values mid between → AreMoved P (is_among places) mid between others after
      → AreMoved P (is_among (place ∷ places)) seats values others after
  first_moved passes place places seats mid others values between after a b = record {
    count = b.count ∙ a.count;
    now = λ p g k. let x = a.now p g k in let y = b.now p x.0 x.1 in
        (y.0, y.1, (λ m. moves p g x.0 y.0 x.2 x.3 y.2 y.3 (place == p) refl (is_among places p) refl m), λ m. rests p g x.0 y.0 x.3 y.3 (place == p) refl (is_among places p) refl m);
  }
    where
      moves : (p : ℕ) (f g h : G) → (is_among (place ∷ []) p ≡ true → P f g) → (is_among (place ∷ []) p ≡ false → f ≡ g)
          → (is_among places p ≡ true → P g h) → (is_among places p ≡ false → g ≡ h)
          → (c : Bool) → (place == p) ≡ c → (d : Bool) → is_among places p ≡ d → is_among (place ∷ places) p ≡ true → P f h
      moves p f g h one same more rest true e true d m = passes f g h (one (rw e refl)) (more d)
      moves p f g h one same more rest true e false d m = subst (λ z. P f z) (rest d) (one (rw e refl))
      moves p f g h one same more rest false e true d m = subst (λ z. P z h) (sym (same (rw e refl))) (more d)
      moves p f g h one same more rest false e false d m = absurd (both_ways (is_among (place ∷ places) p) (rw (e, d) refl) m)

      rests : (p : ℕ) (f g h : G) → (is_among (place ∷ []) p ≡ false → f ≡ g) → (is_among places p ≡ false → g ≡ h)
          → (c : Bool) → (place == p) ≡ c → (d : Bool) → is_among places p ≡ d → is_among (place ∷ places) p ≡ false → f ≡ h
      rests p f g h same rest true e d k m = absurd (both_ways (is_among (place ∷ places) p) m (rw e refl))
      rests p f g h same rest false e true k m = absurd (both_ways (is_among (place ∷ places) p) m (rw (e, k) refl))
      rests p f g h same rest false e false k m = same (rw e refl) ∙ rest k

-- in each case places are on the move still, and the place has moved
module _ {G : Type 0} (P : G → G → Type 0) (seats others : List ℕ) (values after final : List (List ℕ × G)) (slots : List (List ℕ × ℕ)) (place slot next : ℕ)
    (at : slice_get seats place ≡ Some slot) (old : AreSeated seats values) (n : IsNext P seats values after slots slot next) where
  pub sat_moving : IsSat seats place slot next after others final → AreMoving P others final slots
  sat_moving (inl c) = rw (c.1, c.2) (stay_moving P seats values after slots place slot next at old n c.0)
  sat_moving (inr (a, e, inl k)) = rw (e, k.1) (kept_moving P seats values after slots place slot next at old n a (subst (λ z. is_taken z slot ≡ true) e k.0))
  sat_moving (inr (a, e, inr k)) = rw (e, k.1) (dropped_moving P seats values after slots place slot next at old n a (subst (λ z. is_taken z slot ≡ false) e k.0))

  pub sat_moved : IsSat seats place slot next after others final → AreMoved P (is_among (place ∷ [])) seats values others final
  sat_moved (inl c) = rw (c.1, c.2) (stay_moved P seats values after slots place slot next at old n c.0)
  sat_moved (inr (a, e, inl k)) = rw (e, k.1) (kept_moved P seats values after slots place slot next at old n a (subst (λ z. is_taken z slot ≡ true) e k.0))
  sat_moved (inr (a, e, inr k)) = rw (e, k.1) (dropped_moved P seats values after slots place slot next at old n a (subst (λ z. is_taken z slot ≡ false) e k.0))
