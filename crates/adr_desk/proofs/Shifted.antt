-- The seating after an edit of an event.
use Rattle.std.proofs.Common.{◌≡◌, ℕ, ◌<◌, ◌⊎◌, inl, inr, Bool, true, false, if◌then◌else◌, List, length, slice_get, Option, Some, None, refl, ap, sym, subst, ◌∙◌, eqb-true, eq-eqb}
use Rattle.std.proofs.lemmas.Bool.{both_ways}
use Rattle.std.proofs.lemmas.Option.{slice_get_within}
use Rattle.std.specs.Prelude.{option_to_list}
use Rattle.adr_object.specs.declared.party.Resource.{Resource}
use Rattle.adr_model.specs.declared.entry.Tie.{Tie}
use Rattle.adr_model.specs.declared.written.Written.{Written}
use Rattle.adr_model.specs.Book.{Book}
use Rattle.adr_model.specs.Governor.{applies_to}
use Rattle.adr_model.specs.Lists.{In}
use Rattle.adr_model.proofs.Lists.{In-append_left, In-append_right, In-append_cases}
use Rattle.adr_lines.specs.Right.{has_number}
use Rattle.adr_group.specs.Group.{RightMoves}
use Rattle.adr_group.specs.Writes.{is_number}
use Rattle.adr_schedule.specs.Moves.{is_among}
use Rattle.adr_schedule.specs.Seating.{has_at, shifted, Seating, AreRight, AreSeatedFor, IsShifted}
use Rattle.adr_regroup.proofs.Placing.{there, has_group, has_place, number_at}
use Rattle.adr_desk.specs.Edited.{number_of, with_come, IsExchanged}

-- ---- numbers

pub own_number : (o : Option Written) (w : Written) → o ≡ Some w → is_number (number_of o) w.written ≡ true
own_number None w h = absurd (cc)
own_number (Some v) w h = let e : v ≡ w = cc in eq-eqb v.written w.written (ap (λ (x : Written). x.written) e)

pub of_number : (o : Option Written) (n : ℕ) → is_number (number_of o) n ≡ true → (w : Written) × (o ≡ Some w) × (w.written ≡ n)
of_number None n h = absurd (cc)
of_number (Some v) n h = (v, refl, eqb-true v.written n h)

pub not_number : (o : Option Written) (n : ℕ) → ((w : Written) → o ≡ Some w → w.written ≡ n → ⊥) → is_number (number_of o) n ≡ false
not_number o n apart = by (is_number (number_of o) n) refl
  where
    by : (b : Bool) → is_number (number_of o) n ≡ b → b ≡ false
    by false e = refl
    by true e = let r = of_number o n e in absurd (apart r.0 r.1 r.2)

-- what a shift does to a number that is neither, to the one that comes and to the one that goes
module _ (gone come : Option ℕ) (n : ℕ) where
  shift_other : is_number come n ≡ false → is_number gone n ≡ false → (j was : Bool) → (if j then shifted gone come was n else was) ≡ was
  shift_other c g true was = rw (c, g) refl
  shift_other c g false was = refl

  shift_come : is_number come n ≡ true → (j was : Bool) → was ≡ false → (if j then shifted gone come was n else was) ≡ j
  shift_come c true was h = rw c refl
  shift_come c false was h = h

  shift_gone : is_number come n ≡ false → is_number gone n ≡ true → (j was : Bool) → (j ≡ false → was ≡ false) → (if j then shifted gone come was n else was) ≡ false
  shift_gone c g true was h = rw (c, g) refl
  shift_gone c g false was h = h refl

-- where one has gone and the other has come, there is nothing left that goes
pub same_places : (gone come : Option ℕ) (places : List ℕ) (s mid : Seating) → ((n : ℕ) → is_number gone n ≡ true → is_number come n ≡ true → ⊥)
    → IsShifted gone come places s mid → IsShifted gone None places mid mid
same_places gone come places s mid two first = record {
  count = refl;
  writes = λ p n within. by p n (is_among places p) (first.writes p n (subst (λ m. p < m) first.count within));
}
  where
    not_both : (n : ℕ) → is_number gone n ≡ true → (b : Bool) → is_number come n ≡ b → b ≡ false
    not_both n g true c = absurd (two n g c)
    not_both n g false c = refl

    went : (p n : ℕ) (b : Bool) → is_number gone n ≡ b → has_at mid p n ≡ shifted gone come (has_at s p n) n → has_at mid p n ≡ (if b then false else has_at mid p n)
    went p n true g is = is ∙ rw (not_both n g (is_number come n) refl, g) refl
    went p n false g is = refl

    by : (p n : ℕ) (j : Bool) → has_at mid p n ≡ (if j then shifted gone come (has_at s p n) n else has_at s p n)
        → has_at mid p n ≡ (if j then shifted gone None (has_at mid p n) n else has_at mid p n)
    by p n true is = went p n (is_number gone n) refl is
    by p n false is = refl

pub in_come : (come : Option Written) (w : Written) → In w (option_to_list come) → come ≡ Some w
in_come None w m = absurd m
in_come (Some v) w (inl e) = ap (λ (z : Written). Some z) e
in_come (Some v) w (inr n) = absurd n

pub come_in : (come : Option Written) (w : Written) → come ≡ Some w → In w (option_to_list come)
come_in None w h = absurd (cc)
come_in (Some v) w h = let e : v ≡ w = cc in inl e

-- ---- before the edit: groups that are right of the events are right of one more

module _ (tie : Tie) (law : RightMoves tie) (old new : Book) (gone come : Option Written) (x : IsExchanged old new gone come) (s : Seating) (seated : AreSeatedFor tie old s) where
  -- no place has the event that comes
  pub none_has : (v : Written) → come ≡ Some v → (p n : ℕ) → n ≡ v.written → has_at s p n ≡ false
  none_has v e p n same = by (has_at s p n) refl
    where
      by : (b : Bool) → has_at s p n ≡ b → b ≡ false
      by false h = refl
      by true h = let k = seated.known p n h in absurd (x.fresh k.0 v k.1 e (k.2 ∙ same))

  pub right_with : AreRight tie (with_come old come) s
  right_with p g h = law old.events (with_come old come) g (λ w k. ((λ m. In-append_left w old.events (option_to_list come) m), λ m. by w k (In-append_cases w old.events (option_to_list come) m))) (seated.right p g h)
    where
      by : (w : Written) → has_number g.writes w.written ≡ true → In w old.events ⊎ In w (option_to_list come) → In w old.events
      by w k (inl m) = m
      by w k (inr m) = absurd (both_ways (has_at s p w.written) (none_has w (in_come come w m) p w.written refl) (sym (number_at s p g w.written h) ∙ k))

-- ---- after it

module _ (tie : Tie) (law : RightMoves tie) (old new : Book) (gone come : Option Written) (x : IsExchanged old new gone come)
    (s mid after : Seating) (seated : AreSeatedFor tie old s) (joining leaving : List ℕ)
    (joins : (p : ℕ) (r : Resource) (v : Written) → slice_get old.resources p ≡ Some r → come ≡ Some v → is_among joining p ≡ applies_to new r v)
    (leaves : (p : ℕ) (r : Resource) (u : Written) → slice_get old.resources p ≡ Some r → gone ≡ Some u → is_among leaving p ≡ applies_to old r u)
    (first : IsShifted (number_of gone) (number_of come) joining s mid) (second : IsShifted (number_of gone) None leaving mid after)
    (right : AreRight tie (with_come old come) after) where
  -- who has which write at the end
  has_then : (p n : ℕ) → p < length s.seats → has_at after p n ≡ (if is_among leaving p then shifted (number_of gone) None (has_at mid p n) n else has_at mid p n)
  has_then p n h = second.writes p n (subst (λ m. p < m) (sym first.count) h)

  -- numbers of neither stay
  other_stays : (p n : ℕ) → p < length s.seats → is_number (number_of come) n ≡ false → is_number (number_of gone) n ≡ false → has_at after p n ≡ has_at s p n
  other_stays p n h c g =
      has_then p n h ∙ shift_other (number_of gone) None n refl g (is_among leaving p) (has_at mid p n)
      ∙ first.writes p n h ∙ shift_other (number_of gone) (number_of come) n c g (is_among joining p) (has_at s p n)

  not_both : (v : Written) → come ≡ Some v → is_number (number_of gone) v.written ≡ false
  not_both v e = not_number gone v.written (λ u k same. x.fresh u v (x.were u k) e same)

  -- the one that comes is where its places are
  come_stands : (p : ℕ) (r : Resource) (v : Written) → p < length s.seats → slice_get old.resources p ≡ Some r → come ≡ Some v → has_at after p v.written ≡ applies_to new r v
  come_stands p r v h at e =
      has_then p v.written h ∙ shift_other (number_of gone) None v.written refl (not_both v e) (is_among leaving p) (has_at mid p v.written)
      ∙ first.writes p v.written h
      ∙ shift_come (number_of gone) (number_of come) v.written (own_number come v e) (is_among joining p) (has_at s p v.written) (none_has tie law old new gone come x s seated v e p v.written refl)
      ∙ joins p r v at e

  -- the one that goes is nowhere
  gone_stands : (p : ℕ) (r : Resource) (u : Written) → p < length s.seats → slice_get old.resources p ≡ Some r → gone ≡ Some u → has_at after p u.written ≡ false
  gone_stands p r u h at e =
      has_then p u.written h
      ∙ shift_gone (number_of gone) None u.written refl (own_number gone u e) (is_among leaving p) (has_at mid p u.written) (λ l. first.writes p u.written h ∙ by l (is_among joining p))
    where
      not_come : is_number (number_of come) u.written ≡ false
      not_come = not_number come u.written (λ v k same. x.fresh u v (x.were u e) k (sym same))

      by : is_among leaving p ≡ false → (j : Bool) → (if j then shifted (number_of gone) (number_of come) (has_at s p u.written) u.written else has_at s p u.written) ≡ false
      by l j = shift_gone (number_of gone) (number_of come) u.written not_come (own_number gone u e) j (has_at s p u.written)
          (λ _. seated.writes p r u at (x.were u e) ∙ sym (leaves p r u at e) ∙ l)

  count_then : length after.seats ≡ length s.seats
  count_then = second.count ∙ first.count

  within_old : (p : ℕ) → p < length after.seats → p < length s.seats
  within_old p h = subst (λ m. p < m) count_then h

  resource_of : (p : ℕ) → p < length s.seats → (r : Resource) × (slice_get old.resources p ≡ Some r)
  resource_of p h = there old.resources p (subst (λ m. p < m) seated.count h)

  -- whoever has a write has it of an event of the new book
  known : (p n : ℕ) → has_at after p n ≡ true → (w : Written) × In w new.events × (w.written ≡ n)
  known p n h = by (is_number (number_of come) n) refl (is_number (number_of gone) n) refl
    where
      inside : p < length s.seats
      inside = let g = has_group after p n h in within_old p (has_place after p g.0 g.1)

      by : (c : Bool) → is_number (number_of come) n ≡ c → (g : Bool) → is_number (number_of gone) n ≡ g → (w : Written) × In w new.events × (w.written ≡ n)
      by true c g e = let r = of_number come n c in (r.0, x.are r.0 r.1, r.2)
      by false c true e =
          let u = of_number gone n e in
          let r = resource_of p inside in
          absurd (both_ways (has_at after p n) (subst (λ m. has_at after p m ≡ false) u.2 (gone_stands p r.0 u.0 inside r.1 u.1)) h)
      by false c false e =
          let k = seated.known p n (sym (other_stays p n inside c e) ∙ h) in
          (k.0, stays k.0 k.2 (x.kept k.0 k.1), k.2)
        where
          stays : (w : Written) → w.written ≡ n → In w new.events ⊎ (gone ≡ Some w) → In w new.events
          stays w same (inl m) = m
          stays w same (inr k) = absurd (both_ways (is_number (number_of gone) n) e (subst (λ m. is_number (number_of gone) m ≡ true) same (own_number gone w k)))

  writes_then : (p : ℕ) (r : Resource) (w : Written) → slice_get new.resources p ≡ Some r → In w new.events → has_at after p w.written ≡ applies_to new r w
  writes_then p r w at m = by (x.was w m)
    where
      here : slice_get old.resources p ≡ Some r
      here = ap (λ rs. slice_get rs p) (sym x.resources) ∙ at

      inside : p < length s.seats
      inside = subst (λ k. p < k) (sym seated.count) (slice_get_within old.resources p r here)

      by : (In w old.events × (gone ≡ Some w → ⊥)) ⊎ (come ≡ Some w) → has_at after p w.written ≡ applies_to new r w
      by (inr e) = come_stands p r w inside here e
      by (inl k) =
          other_stays p w.written inside
          (not_number come w.written (λ v e same. x.fresh w v k.0 e (sym same)))
          (not_number gone w.written (λ u e same. k.1 (e ∙ ap (λ (z : Written). Some z) (x.one u w (x.were u e) k.0 same))))
          ∙ seated.writes p r w here k.0 ∙ sym (x.applies r w)

  right_then : AreRight tie new.events after
  right_then p g h = law (with_come old come) new.events g (λ w k. ((λ m. by w k (In-append_cases w old.events (option_to_list come) m)), λ m. back w (x.was w m))) (right p g h)
    where
      inside : p < length s.seats
      inside = within_old p (has_place after p g h)

      by : (w : Written) → has_number g.writes w.written ≡ true → In w old.events ⊎ In w (option_to_list come) → In w new.events
      by w k (inr m) = x.are w (in_come come w m)
      by w k (inl m) = stays (x.kept w m)
        where
          stays : In w new.events ⊎ (gone ≡ Some w) → In w new.events
          stays (inl n) = n
          stays (inr e) =
              let r = resource_of p inside in
              absurd (both_ways (has_at after p w.written) (gone_stands p r.0 w inside r.1 e) (sym (number_at after p g w.written h) ∙ k))

      back : (w : Written) → (In w old.events × (gone ≡ Some w → ⊥)) ⊎ (come ≡ Some w) → In w (with_come old come)
      back w (inl k) = In-append_left w old.events (option_to_list come) k.0
      back w (inr e) = In-append_right w old.events (option_to_list come) (come_in come w e)

  pub seated_then : AreSeatedFor tie new after
  seated_then = record {
    count = count_then ∙ seated.count ∙ ap (λ rs. length rs) (sym x.resources);
    right = right_then;
    writes = writes_then;
    known = known;
  }
