-- What an edit of an event compares.
use Rattle.std.proofs.Common.{◌≡◌, ℕ, ◌+◌, ◌≤◌, ◌<◌, ◌==◌, ◌||◌, ◌⊎◌, inl, inr, Bool, true, false, if◌then◌else◌, List, [], ◌∷◌, ◌++◌, length, slice_get, sum_by, Option, Some, None, refl, ap, ap₂, sym, subst, ◌∙◌, arith, eqb-true, eq-eqb}
use Rattle.std.proofs.lemmas.Bool.{both_ways, false_from_ne_true}
use Rattle.std.proofs.lemmas.List.Sums.{sum_by-append}
use Rattle.std.proofs.lemmas.Option.{slice_get_within}
use Rattle.std.specs.Prelude.{option_to_list}
use Rattle.std.specs.Bool.{then_some}
use Rattle.std.specs.Option.{option_and_then, option_map_or}
use Rattle.adr_object.specs.declared.party.Resource.{Resource}
use Rattle.adr_model.specs.declared.entry.Tie.{Tie}
use Rattle.adr_model.specs.declared.written.Written.{Written}
use Rattle.adr_model.specs.Book.{Book, event_by, resource_by}
use Rattle.adr_model.specs.Governor.{applies_to}
use Rattle.adr_model.specs.Lists.{In}
use Rattle.adr_model.specs.Touches.{applying, touches, touches_between, touches_of}
use Rattle.adr_model.specs.Whole.{IsWhole}
use Rattle.adr_model.proofs.Keyed.{own_key}
use Rattle.adr_model.proofs.Lists.{In-append_cases}
use Rattle.adr_lines.specs.Right.{has_number}
use Rattle.adr_lines.specs.declared.indexes.Indexes.{Indexes}
use Rattle.adr_lines.specs.Exchange.{IsIndexOf}
use Rattle.adr_group.specs.Group.{Lines}
use Rattle.adr_group.specs.Repair.{most_repaired}
use Rattle.adr_group.specs.Writes.{is_number}
use Rattle.adr_group.proofs.Turns.{most_both}
use Rattle.adr_schedule.specs.declared.change.Change.{Change}
use Rattle.adr_schedule.specs.declared.change.Side.{Side}
use Rattle.adr_schedule.specs.Moves.{is_among}
use Rattle.adr_schedule.specs.Seating.{group_at, has_at, shifted, AreSeatedFor, IsShifted, Seating}
use Rattle.adr_schedule.specs.Shift.{entries_in, kept_side, most_at, most_shifted, number_in, shifted_writes}
use Rattle.adr_schedule.proofs.Least.{shifted_has}
use Rattle.adr_regroup.specs.Compared.{most_compared_at, most_compared_in, StandOnce}
use Rattle.adr_regroup.proofs.EventTouches.{event_cost}
use Rattle.adr_regroup.proofs.Meeting.{compares_no_more}
use Rattle.adr_regroup.proofs.Placing.{has_place, number_at, there}
use Rattle.adr_regroup.proofs.Sums.{sum_places, sum_rises, sums_before}
use Rattle.adr_regroup.proofs.TouchCosts.{between, between_row, old_rows_cost, row}
use Rattle.adr_regroup.proofs.Turned.{In_at}
use Rattle.adr_desk.specs.Desk.{IsSideOf}
use Rattle.adr_desk.specs.Edited.{number_of, with_come, IsExchanged}
use Rattle.adr_desk.proofs.Shifted.{in_come, not_number, own_number}
use Rattle.adr_desk.proofs.Sides.{side_number}

among_in : (places : List ℕ) (p : ℕ) → In p places → is_among places p ≡ true
among_in [] p m = absurd m
among_in (q ∷ qs) p (inl e) = ap (λ b. b || is_among qs p) (eq-eqb q p e)
among_in (q ∷ qs) p (inr m) = by (q == p) (among_in qs p m)
  where
    by : (b : Bool) → is_among qs p ≡ true → (b || is_among qs p) ≡ true
    by true h = refl
    by false h = h

-- a number that is not the one that comes and is not the one that goes
module _ (gone come : Option ℕ) (n : ℕ) where
  shift_stays : (b : Bool) → is_number come n ≡ false → is_number gone n ≡ false → shifted gone come b n ≡ b
  shift_stays b c g = rw (c, g) refl

  shift_goes : (b : Bool) → is_number come n ≡ false → is_number gone n ≡ true → shifted gone come b n ≡ false
  shift_goes b c g = rw (c, g) refl

module _ (tie : Tie) (old new : Book) (gone come : Option Written) (x : IsExchanged old new gone come) (was : IsWhole old) (whole : IsWhole new)
    (id : List ℕ) (leaves : event_by old id ≡ gone) (comes : event_by new id ≡ come) where
  abbrev cost : Resource → Written → ℕ
  cost r w = most_compared_in new (touches_of r.id w)

  -- what the two events ask of a resource
  abbrev asked : Resource → ℕ
  asked r = between old new r.id id

  abbrev touched : Resource → Option Written → Option Written → ℕ
  touched r o q = most_compared_in new (touches_between r.id (option_and_then (λ w. then_some (applies_to old r w) w) o) (option_and_then (λ w. then_some (applies_to new r w) w) q))

  module _ (p : ℕ) (r : Resource) (at : slice_get old.resources p ≡ Some r) where
    found_then : resource_by new r.id ≡ Some r
    found_then = own_key (λ (q : Resource). q.id) new.resources whole.resource_ids r (subst (λ (rs : List Resource). In r rs) (sym x.resources) (In_at old.resources p r at))

    asked_is : asked r ≡ touched r gone come
    asked_is =
        let found : resource_by old r.id ≡ Some r = own_key (λ (q : Resource). q.id) old.resources was.resource_ids r (In_at old.resources p r at) in
        let before : applying old r.id id ≡ option_and_then (λ w. then_some (applies_to old r w) w) gone =
        ap (λ (o : Option Resource). option_and_then (λ q. option_and_then (λ w. then_some (applies_to old q w) w) (event_by old id)) o) found
        ∙ ap (λ (o : Option Written). option_and_then (λ w. then_some (applies_to old r w) w) o) leaves in
        let now : applying new r.id id ≡ option_and_then (λ w. then_some (applies_to new r w) w) come =
        ap (λ (o : Option Resource). option_and_then (λ q. option_and_then (λ w. then_some (applies_to new q w) w) (event_by new id)) o) found_then
        ∙ ap (λ (o : Option Written). option_and_then (λ w. then_some (applies_to new r w) w) o) comes in
        ap₂ (λ (o q : Option Written). most_compared_in new (touches_between r.id o q)) before now

  -- ---- what the sides ask

  both_apply : (r : Resource) (u v : Written) → (u.written ≡ v.written → ⊥) → cost r u + cost r v ≤ most_compared_in new (touches_between r.id (Some u) (Some v))
  unfolding most_compared_in
  both_apply r u v apart = by (u.written == v.written) refl
    where
      by : (b : Bool) → (u.written == v.written) ≡ b → sum_by (most_compared_at new) (touches_of r.id u) + sum_by (most_compared_at new) (touches_of r.id v)
          ≤ sum_by (most_compared_at new) (if b then [] else (touches_of r.id u ++ touches_of r.id v))
      by true e = absurd (apart (eqb-true u.written v.written e))
      by false e = let both = sum_by-append (most_compared_at new) (touches_of r.id u) (touches_of r.id v) in omega (arith, both)

  pair_cost : (r : Resource) (has : Written → Bool) (j : Bool) (o q : Option Written) → ((u : Written) → o ≡ Some u → has u ≡ applies_to old r u) → ((v : Written) → q ≡ Some v → applies_to new r v ≡ j)
      → ((u v : Written) → o ≡ Some u → q ≡ Some v → u.written ≡ v.written → ⊥)
      → option_map_or (λ u. if has u then cost r u else 0) o 0 + (if j then option_map_or (cost r) q 0 else 0) ≤ touched r o q
  pair_cost r has j None None h k apart = by j
    where
      by : (b : Bool) → 0 + (if b then 0 else 0) ≤ touched r None None
      by true = omega arith
      by false = omega arith
  pair_cost r has j None (Some v) h k apart = by j (k v refl)
    where
      by : (b : Bool) → applies_to new r v ≡ b → 0 + (if b then cost r v else 0) ≤ touched r None (Some v)
      by false e = omega arith
      by true e = rw e (omega arith)
  pair_cost r has j (Some u) None h k apart = by j (applies_to old r u) refl
    where
      by : (b a : Bool) → applies_to old r u ≡ a → (if has u then cost r u else 0) + (if b then 0 else 0) ≤ touched r (Some u) None
      by true true e = rw (h u refl, e) (omega arith)
      by false true e = rw (h u refl, e) (omega arith)
      by true false e = rw (h u refl, e) (omega arith)
      by false false e = rw (h u refl, e) (omega arith)
  pair_cost r has j (Some u) (Some v) h k apart = by j (k v refl) (applies_to old r u) refl
    where
      by : (b : Bool) → applies_to new r v ≡ b → (a : Bool) → applies_to old r u ≡ a → (if has u then cost r u else 0) + (if b then cost r v else 0) ≤ touched r (Some u) (Some v)
      by true f true e = rw (h u refl, e, f) (both_apply r u v (apart u v refl refl))
      by true f false e = rw (h u refl, e, f) (omega arith)
      by false f true e = rw (h u refl, e, f) (omega arith)
      by false f false e = rw (h u refl, e, f) (omega arith)

  apart_events : (u v : Written) → gone ≡ Some u → come ≡ Some v → u.written ≡ v.written → ⊥
  apart_events u v g c same = x.fresh u v (x.were u g) c same

  module _ (indexes : Indexes) (indexed : IsIndexOf tie (with_come old come) indexes) (r : Resource) (found : resource_by new r.id ≡ Some r) (writes : List ℕ)
      (fits : (w : Written) → In w (with_come old come) → has_number writes w.written ≡ true → In w new.events × (applies_to new r w ≡ true)) where
    side_cost : (w : Written) (s : Side) → IsSideOf tie (Some w) (Some s) → most_repaired s.entries.items writes indexes ≤ cost r w
    side_cost w s h = event_cost writes indexes tie w s.entries.items h.2 h.1 new r.id (compares_no_more tie (with_come old come) indexes indexed new r found writes fits)

    -- a side where its event is among the writes, and where it is not
    gone_cost : (numbers : List ℕ) (o : Option Written) (side : Option Side) → IsSideOf tie o side
        → most_repaired (entries_in (kept_side true numbers side)) writes indexes ≤ option_map_or (λ u. if has_number numbers u.written then cost r u else 0) o 0
    gone_cost numbers None None h = omega arith
    gone_cost numbers None (Some s) h = absurd h
    gone_cost numbers (Some w) None h = absurd h
    gone_cost numbers (Some w) (Some s) h = by (has_number numbers s.written) (ap (has_number numbers) (sym h.0))
      where
        by : (b : Bool) → has_number numbers w.written ≡ b → most_repaired (entries_in (if b then Some s else None)) writes indexes ≤ (if has_number numbers w.written then cost r w else 0)
        by true e = rw e (side_cost w s h)
        by false e = omega arith

    come_cost : (numbers : List ℕ) (o : Option Written) (side : Option Side) → IsSideOf tie o side → most_repaired (entries_in (kept_side false numbers side)) writes indexes ≤ option_map_or (cost r) o 0
    come_cost numbers None None h = omega arith
    come_cost numbers None (Some s) h = absurd h
    come_cost numbers (Some w) None h = absurd h
    come_cost numbers (Some w) (Some s) h = by (has_number numbers s.written)
      where
        by : (b : Bool) → most_repaired (entries_in (if b then None else Some s)) writes indexes ≤ cost r w
        by true = omega arith
        by false = side_cost w s h

  -- ---- the places that the event comes to, and then those that it leaves

  module _ (indexes : Indexes) (indexed : IsIndexOf tie (with_come old come) indexes) (change alone : Change)
      (g : IsSideOf tie gone change.gone) (c : IsSideOf tie come change.come) (a : IsSideOf tie gone alone.gone) (lone : alone.come ≡ None)
      (s mid : Seating) (seated : AreSeatedFor tie old s) (joining leaving : List ℕ)
      (joins : (p : ℕ) (r : Resource) (v : Written) → slice_get old.resources p ≡ Some r → come ≡ Some v → is_among joining p ≡ applies_to old r v)
      (first : IsShifted (number_in change.gone) (number_in change.come) joining s mid) where
    -- the one that comes applies just where it joins
    joined : (p : ℕ) (r : Resource) (v : Written) → slice_get old.resources p ≡ Some r → come ≡ Some v → applies_to new r v ≡ is_among joining p
    joined p r v at e = x.applies r v ∙ sym (joins p r v at e)

    not_come : (w : Written) → In w old.events → is_number (number_of come) w.written ≡ false
    not_come w m = not_number come w.written (λ v e same. x.fresh w v m e (sym same))

    no_place_has : (v : Written) → come ≡ Some v → (p : ℕ) → has_at s p v.written ≡ false
    no_place_has v e p = false_from_ne_true (has_at s p v.written) (λ h. let k = seated.known p v.written h in x.fresh k.0 v k.1 e k.2)

    -- who stays applies still
    stays_applies : (p : ℕ) (r : Resource) (w : Written) → slice_get old.resources p ≡ Some r → In w old.events → is_number (number_of gone) w.written ≡ false → has_at s p w.written ≡ true
        → In w new.events × (applies_to new r w ≡ true)
    stays_applies p r w at m apart h = (stays (x.kept w m), x.applies r w ∙ sym (seated.writes p r w at m) ∙ h)
      where
        stays : In w new.events ⊎ (gone ≡ Some w) → In w new.events
        stays (inl n) = n
        stays (inr e) = absurd (both_ways (is_number (number_of gone) w.written) apart (own_number gone w e))

    first_number : (numbers : List ℕ) (n : ℕ) → has_number (shifted_writes change numbers) n ≡ shifted (number_of gone) (number_of come) (has_number numbers n) n
    first_number numbers n =
        shifted_has change numbers n
        ∙ ap₂ (λ (o q : Option ℕ). shifted o q (has_number numbers n) n) (side_number tie gone change.gone g) (side_number tie come change.come c)

    second_number : (numbers : List ℕ) (n : ℕ) → has_number (shifted_writes alone numbers) n ≡ shifted (number_of gone) None (has_number numbers n) n
    second_number numbers n =
        shifted_has alone numbers n
        ∙ ap₂ (λ (o q : Option ℕ). shifted o q (has_number numbers n) n) (side_number tie gone alone.gone a) (ap number_in lone)

    module _ (p : ℕ) (r : Resource) (at : slice_get old.resources p ≡ Some r) where
      inside : p < length s.seats
      inside = subst (λ n. p < n) (sym seated.count) (slice_get_within old.resources p r at)

      mid_has : (n : ℕ) → has_at mid p n ≡ (if is_among joining p then shifted (number_of gone) (number_of come) (has_at s p n) n else has_at s p n)
      mid_has n =
          first.writes p n inside
          ∙ ap₂ (λ (o q : Option ℕ). if is_among joining p then shifted o q (has_at s p n) n else has_at s p n) (side_number tie gone change.gone g) (side_number tie come change.come c)

      first_fits : (lines : Lines) → group_at s p ≡ Some lines → is_among joining p ≡ true → (w : Written) → In w (with_come old come) → has_number (shifted_writes change lines.writes) w.written ≡ true
          → In w new.events × (applies_to new r w ≡ true)
      first_fits lines e j w m h = by (In-append_cases w old.events (option_to_list come) m)
        where
          shown : shifted (number_of gone) (number_of come) (has_at s p w.written) w.written ≡ true
          shown = sym (first_number lines.writes w.written ∙ ap (λ b. shifted (number_of gone) (number_of come) b w.written) (number_at s p lines w.written e)) ∙ h

          by : In w old.events ⊎ In w (option_to_list come) → In w new.events × (applies_to new r w ≡ true)
          by (inr n) = let k = in_come come w n in (x.are w k, joined p r w at k ∙ j)
          by (inl n) = old_one (is_number (number_of gone) w.written) refl
            where
              old_one : (b : Bool) → is_number (number_of gone) w.written ≡ b → In w new.events × (applies_to new r w ≡ true)
              old_one true k = absurd (both_ways (shifted (number_of gone) (number_of come) (has_at s p w.written) w.written) (shift_goes (number_of gone) (number_of come) w.written (has_at s p w.written) (not_come w n) k) shown)
              old_one false k = stays_applies p r w at n k (sym (shift_stays (number_of gone) (number_of come) w.written (has_at s p w.written) (not_come w n) k) ∙ shown)

      second_fits : (lines : Lines) → group_at mid p ≡ Some lines → is_among joining p ≡ false → (w : Written) → In w (with_come old come) → has_number (shifted_writes alone lines.writes) w.written ≡ true
          → In w new.events × (applies_to new r w ≡ true)
      second_fits lines e j w m h = by (In-append_cases w old.events (option_to_list come) m)
        where
          same : has_at mid p w.written ≡ has_at s p w.written
          same = mid_has w.written ∙ ap (λ (b : Bool). if b then shifted (number_of gone) (number_of come) (has_at s p w.written) w.written else has_at s p w.written) j

          shown : shifted (number_of gone) None (has_at s p w.written) w.written ≡ true
          shown = sym (second_number lines.writes w.written ∙ ap (λ b. shifted (number_of gone) None b w.written) (number_at mid p lines w.written e ∙ same)) ∙ h

          old_one : (b : Bool) → is_number (number_of gone) w.written ≡ b → (In w old.events ⊎ (come ≡ Some w)) → In w new.events × (applies_to new r w ≡ true)
          old_one true k n = absurd (both_ways (shifted (number_of gone) None (has_at s p w.written) w.written) (shift_goes (number_of gone) None w.written (has_at s p w.written) refl k) shown)
          old_one false k (inl n) = stays_applies p r w at n k (sym (shift_stays (number_of gone) None w.written (has_at s p w.written) refl k) ∙ shown)
          old_one false k (inr n) = absurd (both_ways (has_at s p w.written) (no_place_has w n p) (sym (shift_stays (number_of gone) None w.written (has_at s p w.written) refl k) ∙ shown))

          by : In w old.events ⊎ In w (option_to_list come) → In w new.events × (applies_to new r w ≡ true)
          by (inl n) = old_one (is_number (number_of gone) w.written) refl (inl n)
          by (inr n) = old_one (is_number (number_of gone) w.written) refl (inr (in_come come w n))

      group_first : (lines : Lines) → group_at s p ≡ Some lines → is_among joining p ≡ true → most_shifted change indexes lines ≤ asked r
      unfolding most_shifted
      group_first lines e j =
          let writes = shifted_writes change lines.writes in
          let fits = first_fits lines e j in
          let both = most_both (entries_in (kept_side true lines.writes change.gone)) (entries_in (kept_side false lines.writes change.come)) writes indexes in
          let goes = gone_cost indexes indexed r (found_then p r at) writes fits lines.writes gone change.gone g in
          let enters = come_cost indexes indexed r (found_then p r at) writes fits lines.writes come change.come c in
          let pair = pair_cost r (λ u. has_number lines.writes u.written) true gone come
          (λ u k. number_at s p lines u.written e ∙ seated.writes p r u at (x.were u k)) (λ v k. joined p r v at k ∙ j) apart_events in
          let all = asked_is p r at in
          omega (arith, both, goes, enters, pair, all)

      -- where it does not join
      group_second : (lines : Lines) → group_at mid p ≡ Some lines → is_among joining p ≡ false → most_shifted alone indexes lines ≤ asked r
      unfolding most_shifted
      group_second lines e j =
          let writes = shifted_writes alone lines.writes in
          let fits = second_fits lines e j in
          let both = most_both (entries_in (kept_side true lines.writes alone.gone)) (entries_in (kept_side false lines.writes alone.come)) writes indexes in
          let none : most_repaired (entries_in (kept_side false lines.writes alone.come)) writes indexes ≡ 0 = ap (λ (o : Option Side). most_repaired (entries_in (kept_side false lines.writes o)) writes indexes) lone in
          let goes = gone_cost indexes indexed r (found_then p r at) writes fits lines.writes gone alone.gone a in
          let pair = pair_cost r (λ u. has_number lines.writes u.written) false gone come
          (λ u k. number_at mid p lines u.written e
          ∙ mid_has u.written ∙ ap (λ (b : Bool). if b then shifted (number_of gone) (number_of come) (has_at s p u.written) u.written else has_at s p u.written) j
          ∙ seated.writes p r u at (x.were u k))
          (λ v k. joined p r v at k ∙ j) apart_events in
          let all = asked_is p r at in
          omega (arith, both, none, goes, pair, all)

      -- where it does the old one is gone already
      group_joined : (lines : Lines) → group_at mid p ≡ Some lines → is_among joining p ≡ true → most_shifted alone indexes lines ≤ 0
      unfolding most_shifted
      group_joined lines e j =
          let writes = shifted_writes alone lines.writes in
          let both = most_both (entries_in (kept_side true lines.writes alone.gone)) (entries_in (kept_side false lines.writes alone.come)) writes indexes in
          let none : most_repaired (entries_in (kept_side false lines.writes alone.come)) writes indexes ≡ 0 = ap (λ (o : Option Side). most_repaired (entries_in (kept_side false lines.writes o)) writes indexes) lone in
          let gone_none = by alone.gone gone refl a in
          omega (arith, both, none, gone_none)
        where
          absent : (u : Written) → gone ≡ Some u → has_number lines.writes u.written ≡ false
          absent u k =
              number_at mid p lines u.written e
              ∙ mid_has u.written ∙ ap (λ (b : Bool). if b then shifted (number_of gone) (number_of come) (has_at s p u.written) u.written else has_at s p u.written) j
              ∙ shift_goes (number_of gone) (number_of come) u.written (has_at s p u.written) (not_come u (x.were u k)) (own_number gone u k)

          by : (side : Option Side) (o : Option Written) → gone ≡ o → IsSideOf tie o side → most_repaired (entries_in (kept_side true lines.writes side)) (shifted_writes alone lines.writes) indexes ≤ 0
          by None o k h = omega arith
          by (Some z) None k h = absurd h
          by (Some z) (Some u) k h = rw (ap (has_number lines.writes) h.0 ∙ absent u k) (omega arith)

    -- ---- all places

    abbrev at_place : ℕ → ℕ
    at_place p = option_map_or asked (slice_get old.resources p) 0

    place_first : (p : ℕ) → is_among joining p ≡ true → most_at change indexes s p ≤ at_place p
    place_first p j = by (group_at s p) refl
      where
        by : (o : Option Lines) → group_at s p ≡ o → option_map_or (most_shifted change indexes) o 0 ≤ at_place p
        by None e = omega arith
        by (Some lines) e =
            let r = there old.resources p (subst (λ n. p < n) seated.count (has_place s p lines e)) in
            let here : at_place p ≡ asked r.0 = ap (λ (o : Option Resource). option_map_or asked o 0) r.1 in
            let own = group_first p r.0 r.1 lines e j in
            omega (arith, here, own)

    place_second : (p : ℕ) → most_at alone indexes mid p ≤ (if is_among joining p then 0 else at_place p)
    place_second p = by (group_at mid p) refl
      where
        by : (o : Option Lines) → group_at mid p ≡ o → option_map_or (most_shifted alone indexes) o 0 ≤ (if is_among joining p then 0 else at_place p)
        by None e = omega arith
        by (Some lines) e = either (is_among joining p) refl
          where
            found : (r : Resource) × (slice_get old.resources p ≡ Some r)
            found = there old.resources p (subst (λ n. p < n) (first.count ∙ seated.count) (has_place mid p lines e))

            either : (b : Bool) → is_among joining p ≡ b → most_shifted alone indexes lines ≤ (if b then 0 else at_place p)
            either true j = group_joined p found.0 found.1 lines e j
            either false j =
                let here : at_place p ≡ asked found.0 = ap (λ (o : Option Resource). option_map_or asked o 0) found.1 in
                let own = group_second p found.0 found.1 lines e j in
                omega (arith, here, own)

    abbrev first_share : ℕ → ℕ
    first_share p = if is_among joining p then at_place p else 0

    abbrev second_share : ℕ → ℕ
    second_share p = if is_among joining p then 0 else at_place p

    pub shifts_cost : StandOnce joining (length old.resources) → StandOnce leaving (length old.resources)
        → sum_by (most_at change indexes s) joining + sum_by (most_at alone indexes mid) leaving ≤ most_compared_in new (touches old new)
    shifts_cost join_once leave_once =
        let n = length old.resources in
        let enter = sum_rises (most_at change indexes s) first_share joining (λ p m. by p (is_among joining p) (among_in joining p m) (place_first p (among_in joining p m))) in
        let leave = sum_rises (most_at alone indexes mid) second_share leaving (λ p m. place_second p) in
        let shares = sums_before first_share second_share at_place n (λ p. both p (is_among joining p)) in
        let each = sum_places at_place (λ (r : Resource). row old new r.id) old.resources (λ p r at. own p r at) in
        let all = old_rows_cost old new in
        omega (arith, enter, leave, join_once first_share, leave_once second_share, shares, each, all)
      where
        by : (p : ℕ) (b : Bool) → b ≡ true → most_at change indexes s p ≤ at_place p → most_at change indexes s p ≤ (if b then at_place p else 0)
        by p true e h = h
        by p false e h = absurd (cc)

        both : (p : ℕ) (b : Bool) → (if b then at_place p else 0) + (if b then 0 else at_place p) ≤ at_place p
        both p true = omega arith
        both p false = omega arith

        own : (p : ℕ) (r : Resource) → slice_get old.resources p ≡ Some r → at_place p ≤ row old new r.id
        own p r at =
            let here : at_place p ≡ asked r = ap (λ (o : Option Resource). option_map_or asked o 0) at in
            let less = between_row old new r.id id in
            omega (arith, here, less)
