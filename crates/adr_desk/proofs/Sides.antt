-- The sides of a change, and the events that are indexed while it is made.
use Rattle.std.proofs.Common.{◌≡◌, ◌+◌, ◌⊎◌, inl, inr, true, List, [], ◌∷◌, ◌++◌, map, Option, Some, None, refl, ap, sym, subst, ◌∙◌}
use Rattle.std.specs.List.{IsDistinct}
use Rattle.std.specs.Prelude.{option_to_list}
use Rattle.adr_value.specs.declared.payload.PayloadType.{PayloadType}
use Rattle.adr_model.specs.declared.entry.Entry.{Entry}
use Rattle.adr_model.specs.declared.entry.Tie.{Tie}
use Rattle.adr_model.specs.declared.written.Written.{Written}
use Rattle.adr_model.specs.Book.{Book}
use Rattle.adr_model.specs.Governor.{entries_of}
use Rattle.adr_model.specs.Lists.{In}
use Rattle.adr_model.specs.Rank.{ranked}
use Rattle.adr_model.proofs.Lists.{In-append_left, In-append_right, In-append_cases}
use Rattle.adr_lines.specs.Grouped.{entries_under}
use Rattle.adr_lines.specs.Exchange.{AreEntriesOf, HaveOwnNumbers, IsExchange}
use Rattle.adr_group.specs.Writes.{is_number}
use Rattle.adr_schedule.specs.declared.change.Change.{Change}
use Rattle.adr_schedule.specs.declared.change.Side.{Side}
use Rattle.adr_schedule.specs.Shift.{entries_in, number_in, AreSidesOf, AreTwo}
use Rattle.adr_desk.specs.Desk.{IsSideOf}
use Rattle.adr_desk.specs.Edited.{number_of, with_come, IsExchanged}
use Rattle.adr_desk.proofs.Shifted.{come_in, in_come, of_number}

module _ (tie : Tie) where
  -- a side has its event's number
  pub side_number : (w : Option Written) (s : Option Side) → IsSideOf tie w s → number_in s ≡ number_of w
  side_number None None h = refl
  side_number None (Some s) h = absurd h
  side_number (Some w) None h = absurd h
  side_number (Some w) (Some s) h = ap (λ n. Some n) h.0

  -- and its event, with its entries
  event_of : (w : Option Written) (s : Side) → IsSideOf tie w (Some s) → (v : Written) × (w ≡ Some v) × (s.written ≡ v.written) × ((k : PayloadType) → entries_under s.entries.items k ≡ map (ranked tie) (entries_of k v))
  event_of None s h = absurd h
  event_of (Some w) s h = (w, refl, h.0, h.1)

  -- the entries of at most one event
  pub entries_of_side : (w : Option Written) (s : Option Side) → IsSideOf tie w s → AreEntriesOf tie (option_to_list w) (entries_in s)
  entries_of_side None None h k = refl
  entries_of_side None (Some s) h k = absurd h
  entries_of_side (Some w) None h k = absurd h
  entries_of_side (Some w) (Some s) h k = h.1 k ∙ ap (λ es. map (ranked tie) es) (sym (no_more (entries_of k w)))
    where
      no_more : (es : List Entry) → es ++ [] ≡ es
      no_more [] = refl
      no_more (e ∷ es) = ap (λ l. e ∷ l) (no_more es)

  module _ (old new : Book) (gone come : Option Written) (x : IsExchanged old new gone come) (change : Change) (g : IsSideOf tie gone change.gone) (c : IsSideOf tie come change.come) where
    pub two_sides : AreTwo change
    two_sides n a b =
        let u = of_number gone n (subst (λ m. is_number m n ≡ true) (side_number gone change.gone g) a) in
        let v = of_number come n (subst (λ m. is_number m n ≡ true) (side_number come change.come c) b) in
        x.fresh u.0 v.0 (x.were u.0 u.1) v.1 (u.2 ∙ sym v.2)

    pub sides_of_events : AreSidesOf tie (with_come old come) change
    sides_of_events side (inl e) w m same =
        let u = event_of gone side (subst (λ s. IsSideOf tie gone s) e g) in
        let one : w ≡ u.0 = by u.0 u.1 (same ∙ u.2) (In-append_cases w old.events (option_to_list come) m) in
        λ k. u.3 k ∙ ap (λ z. map (ranked tie) (entries_of k z)) (sym one)
      where
        by : (u : Written) → gone ≡ Some u → w.written ≡ u.written → In w old.events ⊎ In w (option_to_list come) → w ≡ u
        by u k h (inl n) = x.one w u n (x.were u k) h
        by u k h (inr n) = absurd (x.fresh u w (x.were u k) (in_come come w n) (sym h))
    sides_of_events side (inr e) w m same =
        let v = event_of come side (subst (λ s. IsSideOf tie come s) e c) in
        let one : w ≡ v.0 = by v.0 v.1 (same ∙ v.2) (In-append_cases w old.events (option_to_list come) m) in
        λ k. v.3 k ∙ ap (λ z. map (ranked tie) (entries_of k z)) (sym one)
      where
        some_one : (a b : Written) → Some a ≡ Some b → a ≡ b
        some_one a b h = cc

        by : (v : Written) → come ≡ Some v → w.written ≡ v.written → In w old.events ⊎ In w (option_to_list come) → w ≡ v
        by v k h (inl n) = absurd (x.fresh w v n k h)
        by v k h (inr n) = some_one w v (sym (in_come come w n) ∙ k)

-- ---- the events that are indexed

own_numbers : (w : Option Written) → HaveOwnNumbers (option_to_list w)
unfolding IsDistinct
own_numbers None = tt
own_numbers (Some w) = (tt, tt)

module _ (old new : Book) (gone come : Option Written) (x : IsExchanged old new gone come) where
  -- first the one that comes
  pub first_exchange : IsExchange old.events (with_come old come) [] (option_to_list come)
  first_exchange = record {
    made = λ w. ((λ m. by w (In-append_cases w old.events (option_to_list come) m)), λ m. back w m);
    were = λ w m. absurd m;
    unlike = λ w v m k h. x.fresh v w k (in_come come w m) (sym h);
    one = x.one;
    gone_apart = own_numbers None;
    come_apart = own_numbers come;
  }
    where
      by : (w : Written) → In w old.events ⊎ In w (option_to_list come) → (In w old.events × (In w [] → ⊥)) ⊎ In w (option_to_list come)
      by w (inl m) = inl (m, λ n. absurd n)
      by w (inr m) = inr m

      back : (w : Written) → (In w old.events × (In w [] → ⊥)) ⊎ In w (option_to_list come) → In w (with_come old come)
      back w (inl m) = In-append_left w old.events (option_to_list come) m.0
      back w (inr m) = In-append_right w old.events (option_to_list come) m

  -- then the one that goes is taken out
  pub second_exchange : IsExchange (with_come old come) new.events (option_to_list gone) []
  second_exchange = record {
    made = λ w. ((λ m. inl (by w (x.was w m))), λ m. back w m);
    were = λ w m. In-append_left w old.events (option_to_list come) (x.were w (in_come gone w m));
    unlike = λ w v m k h. absurd m;
    one = λ w v m k h. one w v (In-append_cases w old.events (option_to_list come) m) (In-append_cases v old.events (option_to_list come) k) h;
    gone_apart = own_numbers gone;
    come_apart = own_numbers None;
  }
    where
      by : (w : Written) → (In w old.events × (gone ≡ Some w → ⊥)) ⊎ (come ≡ Some w) → In w (with_come old come) × (In w (option_to_list gone) → ⊥)
      by w (inl m) = (In-append_left w old.events (option_to_list come) m.0, λ n. m.1 (in_come gone w n))
      by w (inr e) = (In-append_right w old.events (option_to_list come) (come_in come w e), λ n. x.fresh w w (x.were w (in_come gone w n)) e refl)

      stays : (w : Written) → (In w (option_to_list gone) → ⊥) → In w new.events ⊎ (gone ≡ Some w) → In w new.events
      stays w a (inl m) = m
      stays w a (inr e) = absurd (a (come_in gone w e))

      found : (w : Written) → (In w (option_to_list gone) → ⊥) → In w old.events ⊎ In w (option_to_list come) → In w new.events
      found w a (inl m) = stays w a (x.kept w m)
      found w a (inr m) = x.are w (in_come come w m)

      back : (w : Written) → (In w (with_come old come) × (In w (option_to_list gone) → ⊥)) ⊎ In w [] → In w new.events
      back w (inl m) = found w m.1 (In-append_cases w old.events (option_to_list come) m.0)
      back w (inr m) = absurd m

      some_one : (a b : Written) → Some a ≡ Some b → a ≡ b
      some_one a b h = cc

      one : (w v : Written) → In w old.events ⊎ In w (option_to_list come) → In v old.events ⊎ In v (option_to_list come) → w.written ≡ v.written → w ≡ v
      one w v (inl a) (inl b) h = x.one w v a b h
      one w v (inl a) (inr b) h = absurd (x.fresh w v a (in_come come v b) h)
      one w v (inr a) (inl b) h = absurd (x.fresh v w b (in_come come w a) (sym h))
      one w v (inr a) (inr b) h = some_one w v (sym (in_come come w a) ∙ in_come come v b)

-- ---- shares
