-- The ranks of winners, and the entries of the event that goes and of the one that comes.
use Rattle.std.proofs.Common.{◌≡◌, ℕ, ◌^◌, ◌==◌, ◌⊎◌, inl, inr, eqb, Bool, true, false, if◌then◌else◌, List, [], ◌∷◌, map, filter_map, Option, Some, None, refl, ap, sym, subst, ◌∙◌, eqb-true, eq-eqb}
use Rattle.std.specs.Bool.{then_some}
use Rattle.std.specs.List.{enumerate_from, zip, cons_option, IsDistinct}
use Rattle.std.specs.Option.{option_map, option_map_or}
use Rattle.std.specs.Prelude.{option_to_list}
use Rattle.std.specs.Result.{result_unwrap_or}
use Rattle.std.proofs.lemmas.Bool.{both_ways}
use Rattle.adr_value.specs.declared.payload.PayloadType.{PayloadType}
use Rattle.adr_model.specs.declared.entry.Entry.{Entry}
use Rattle.adr_model.specs.declared.entry.Rank.{Rank}
use Rattle.adr_model.specs.declared.entry.Tie.{Tie}
use Rattle.adr_model.specs.declared.entry.Tie.TheVariants.{Newest, LatestStart}
use Rattle.adr_model.specs.declared.timeline.Winner.{Winner}
use Rattle.adr_model.specs.declared.written.Written.{Written}
use Rattle.adr_model.specs.Book.{Book}
use Rattle.adr_model.specs.Governor.{entries_of, entry_at, winner_of}
use Rattle.adr_model.specs.Layout.{layout}
use Rattle.adr_model.specs.Lists.{In}
use Rattle.adr_model.specs.Rank.{carries, priority_of, ranked}
use Rattle.adr_model.specs.Whole.{IsWhole}
use Rattle.adr_model.proofs.Events.{numbers, one_write}
use Rattle.adr_model.proofs.Lists.{In-append_left, In-append_right, In-append_cases, In-flat_map, In-from_flat_map, In-from_map, In-map}
use Rattle.adr_repair.proofs.Inside.{number_of_entry}
use Rattle.adr_store.specs.Numbers.{by_number}
use Rattle.adr_lines.specs.Grouped.{entries_under}
use Rattle.adr_lines.specs.Right.{all_of}
use Rattle.adr_lines.specs.declared.indexes.Indexes.{Indexes}
use Rattle.adr_lines.specs.Exchange.{IsIndexOf}
use Rattle.adr_lines.specs.Indexes.{under}
use Rattle.adr_group.specs.Laid.{AreOwnOf, AreRanksBut, IsComing}
use Rattle.adr_schedule.specs.declared.change.Change.{Change}
use Rattle.adr_schedule.specs.declared.change.Side.{Side}
use Rattle.adr_schedule.specs.Shift.{IsLaidBy}
use Rattle.adr_desk.specs.Desk.{IsSideOf}
use Rattle.adr_desk.specs.Edited.{with_come, IsExchanged}
use Rattle.adr_desk.specs.Ranks.{if_newest, newest_rank, priority_in}

some_one : {X : Type 0} (x y : X) → Some x ≡ Some y → x ≡ y
some_one x y h = cc

none_is_some : {X : Type 0} (x : X) → ◌≡◌ {A = Option X} None (Some x) → ⊥
none_is_some x h = absurd (cc)

-- ---- the events of entries

-- some of the entries, all of one priority
one_priority : {X : Type 0} (ps : List X) (passes : X → Bool) (entry : X → Entry) (n : ℕ) → ((p : X) → (entry p).rank.priority ≡ n)
    → (e : Entry) → In e (filter_map (λ p. then_some (passes p) (entry p)) ps) → e.rank.priority ≡ n
one_priority [] passes entry n all e m = absurd m
one_priority {X = X} (p ∷ ps) passes entry n all e m = by (passes p) m (one_priority ps passes entry n all e)
  where
    by : (b : Bool) → In e (cons_option (then_some b (entry p)) (filter_map (λ (q : X). then_some (passes q) (entry q)) ps))
        → (In e (filter_map (λ (q : X). then_some (passes q) (entry q)) ps) → e.rank.priority ≡ n) → e.rank.priority ≡ n
    by true (inl same) later = ap (λ (z : Entry). z.rank.priority) (sym same) ∙ all p
    by true (inr k) later = later k
    by false k later = later k

-- an event's entries have its priority
priority_of_entry : (k : PayloadType) (w : Written) (e : Entry) → In e (entries_of k w) → e.rank.priority ≡ priority_of w.event.priority
priority_of_entry k w e m =
    one_priority (enumerate_from 0 (zip w.event.intervals (result_unwrap_or (layout w.event) [])))
    (λ p. carries p.1.0 k) (λ p. entry_at w p.0 p.1.1) (priority_of w.event.priority) (λ p. refl) e m

-- an event is found by its number
by_own_number : (ws : List Written) → IsDistinct eqb (numbers ws) → (w : Written) → In w ws → by_number ws w.written ≡ Some w
unfolding IsDistinct
by_own_number [] d w m = absurd m
by_own_number (y ∷ ys) d w m = by (y.written == w.written) refl m (by_own_number ys d.1 w)
  where
    by : (b : Bool) → (y.written == w.written) ≡ b → (y ≡ w) ⊎ In w ys → (In w ys → by_number ys w.written ≡ Some w) → (if b then Some y else by_number ys w.written) ≡ Some w
    by true k n later = ap (λ (z : Written). Some z) (one_write (y ∷ ys) d y w (inl refl) n (eqb-true y.written w.written k))
    by false k (inl same) later = absurd (both_ways (y.written == w.written) k (eq-eqb y.written w.written (ap (λ (z : Written). z.written) same)))
    by false k (inr n) later = later n

-- ---- what is indexed

module _ (tie : Tie) (events : List Written) (indexes : Indexes) (indexed : IsIndexOf tie events indexes) where
  -- an indexed entry is of one of the events
  record IsFrom (k : PayloadType) (e : Entry) : Type 0 where
    pub event : Written
    pub there : In event events
    pub entry : Entry
    pub own : In entry (entries_of k event)
    pub is : ranked tie entry ≡ e
    pub number : e.rank.written ≡ event.written

  -- there is such an event for each indexed entry
  from : (k : PayloadType) (e : Entry) → In e (under indexes k) → IsFrom k e
  unfolding IsIndexOf
  from k e m =
      let r = In-from_map (ranked tie) (all_of events k) e ((indexed k e).0 m) in
      let f = In-from_flat_map (entries_of k) events r.0 r.1 in
      record {
        event = f.0;
        there = f.1;
        entry = r.0;
        own = f.2;
        is = r.2;
        number = ap (λ (x : Entry). x.rank.written) (sym r.2) ∙ number_of_entry k f.0 r.0 f.2;
      }

  module _ (u : Written) (held : In u events) (one : (w : Written) → In w events → w.written ≡ u.written → u ≡ w) (side : Side) (c : IsSideOf tie (Some u) (Some side)) where
    -- the entries of that number are those of the side
    own_entries : AreOwnOf indexes side.written side.entries.items
    unfolding IsIndexOf
    own_entries k e = (λ m. there (from k e m.0) m.1, λ m. back (In-from_map (ranked tie) (entries_of k u) e (subst (λ (es : List Entry). In e es) (c.1 k) m)))
      where
        there : IsFrom k e → e.rank.written ≡ side.written → In e (entries_under side.entries.items k)
        there f same =
            let own : In f.entry (entries_of k u) = subst (λ (w : Written). In f.entry (entries_of k w)) (sym (one f.event f.there (sym f.number ∙ same ∙ c.0))) f.own in
            subst (λ (es : List Entry). In e es) (sym (c.1 k))
            (subst (λ (x : Entry). In x (map (ranked tie) (entries_of k u))) f.is (In-map (ranked tie) (entries_of k u) f.entry own))

        back : (x : Entry) × In x (entries_of k u) × (ranked tie x ≡ e) → In e (under indexes k) × (e.rank.written ≡ side.written)
        back r = (
          (indexed k e).1
              (subst (λ (x : Entry). In x (map (ranked tie) (all_of events k))) r.2
              (In-map (ranked tie) (all_of events k) r.0
              (In-flat_map (entries_of k) events u r.0 held r.1))),
          ap (λ (x : Entry). x.rank.written) (sym r.2) ∙ number_of_entry k u r.0 r.1 ∙ sym c.0,
        )

-- ---- where one event goes and another comes

module _ (old new : Book) (gone come : Option Written) (exchange : IsExchanged old new gone come) where
  -- an indexed event is of the old book, or comes
  which : (w : Written) → In w (with_come old come) → In w old.events ⊎ (come ≡ Some w)
  which w m = by (In-append_cases w old.events (option_to_list come) m)
    where
      comes : (o : Option Written) → In w (option_to_list o) → o ≡ Some w
      comes None n = absurd n
      comes (Some v) (inl same) = ap (λ (z : Written). Some z) same
      comes (Some v) (inr n) = absurd n

      by : In w old.events ⊎ In w (option_to_list come) → In w old.events ⊎ (come ≡ Some w)
      by (inl n) = inl n
      by (inr n) = inr (comes come n)

  comes_in : (v : Written) → come ≡ Some v → In v (with_come old come)
  comes_in v is = In-append_right v old.events (option_to_list come) (subst (λ (o : Option Written). In v (option_to_list o)) (sym is) (inl refl))

  -- each has its number alone
  one_comes : (v : Written) → come ≡ Some v → (w : Written) → In w (with_come old come) → w.written ≡ v.written → v ≡ w
  one_comes v is w m same = by (which w m)
    where
      by : In w old.events ⊎ (come ≡ Some w) → v ≡ w
      by (inl n) = absurd (exchange.fresh w v n is same)
      by (inr k) = some_one v w (sym is ∙ k)

  one_goes : (u : Written) → gone ≡ Some u → (w : Written) → In w (with_come old come) → w.written ≡ u.written → u ≡ w
  one_goes u is w m same = by (which w m)
    where
      by : In w old.events ⊎ (come ≡ Some w) → u ≡ w
      by (inl n) = exchange.one u w (exchange.were u is) n (sym same)
      by (inr k) = absurd (exchange.fresh u w (exchange.were u is) k (sym same))

  module _ (tie : Tie) (indexes : Indexes) (indexed : IsIndexOf tie (with_come old come) indexes) where
    -- the entries of the event that goes are indexed
    goes_by : (o : Option Side) → IsSideOf tie gone o → (side : Side) → o ≡ Some side → AreOwnOf indexes side.written side.entries.items
    goes_by o c side is = by gone refl (subst (λ (s : Option Side). IsSideOf tie gone s) is c)
      where
        by : (g : Option Written) → gone ≡ g → IsSideOf tie g (Some side) → AreOwnOf indexes side.written side.entries.items
        by None k d = absurd d
        by (Some u) k d =
            own_entries tie (with_come old come) indexes indexed u (In-append_left u old.events (option_to_list come) (exchange.were u k)) (one_goes u k) side d

  -- ---- the ranks of all other entries

  module _ (whole : IsWhole old) (v : Written) (comes : come ≡ Some v) (indexes : Indexes) (indexed : IsIndexOf Newest (with_come old come) indexes)
      (side : Side) (c : IsSideOf Newest (Some v) (Some side)) where
    -- a winner of an event of the book has the rank of its entry
    rank_in_book : (k : PayloadType) (w : Written) (x : Entry) → In w old.events → In x (entries_of k w)
        → newest_rank old.events (winner_of (ranked Newest x)) ≡ (ranked Newest x).rank
    rank_in_book k w x m own =
        let number = number_of_entry k w x own in
        let found : by_number old.events x.rank.written ≡ Some w = ap (by_number old.events) number ∙ by_own_number old.events whole.sound.writes w m in
        let priority : priority_in old.events x.rank.written ≡ x.rank.priority =
        ap (λ (o : Option Written). option_map_or (λ (z : Written). priority_of z.event.priority) o (2 ^ 32)) found ∙ sym (priority_of_entry k w x own) in
        ap (λ n. record (ranked Newest x).rank { priority = n }) priority

    -- all other entries have the ranks of their winners
    ranks_but : AreRanksBut side.written indexes (newest_rank old.events)
    ranks_but k e m unlike = by (from Newest (with_come old come) indexes indexed k e m)
      where
        by : IsFrom Newest (with_come old come) indexes indexed k e → newest_rank old.events (winner_of e) ≡ e.rank
        by f = subst (λ (x : Entry). newest_rank old.events (winner_of x) ≡ x.rank) f.is (of_event (which f.event f.there))
          where
            of_event : In f.event old.events ⊎ (come ≡ Some f.event) → newest_rank old.events (winner_of (ranked Newest f.entry)) ≡ (ranked Newest f.entry).rank
            of_event (inl n) = rank_in_book k f.event f.entry n f.own
            of_event (inr is) = absurd (unlike (f.number ∙ ap (λ (w : Written). w.written) (some_one f.event v (sym is ∙ comes)) ∙ sym c.0))

    -- so the entries of the one that comes can be laid over what is shown
    is_coming : IsComing indexes (newest_rank old.events) side.written side.entries.items
    is_coming = record {
      types = c.2;
      own = own_entries Newest (with_come old come) indexes indexed v (comes_in v comes) (one_comes v comes) side c;
      ranks = ranks_but;
    }

  -- ---- the change

  module _ (tie : Tie) (indexes : Indexes) (indexed : IsIndexOf tie (with_come old come) indexes) where
    comes_by : (o : Option Side) → IsWhole old → IsSideOf tie come o → (rank : Winner → Rank) (side : Side) → if_newest tie (newest_rank old.events) ≡ Some rank → o ≡ Some side
        → IsComing indexes rank side.written side.entries.items
    comes_by o whole c rank side r is = by tie r come refl (subst (λ (s : Option Side). IsSideOf tie come s) is c) indexed
      where
        by : (x : Tie) → if_newest x (newest_rank old.events) ≡ Some rank → (w : Option Written) → come ≡ w → IsSideOf x w (Some side) → IsIndexOf x (with_come old come) indexes
            → IsComing indexes rank side.written side.entries.items
        by LatestStart k w i d held = absurd (none_is_some rank k)
        by Newest k None i d held = absurd d
        by Newest k (Some v) i d held =
            subst (λ (f : Winner → Rank). IsComing indexes f side.written side.entries.items) (some_one (newest_rank old.events) rank k) (is_coming whole v i indexes held side d)

    -- what an edit makes is laid by the ranks under the rule of the newest write, and what it takes away is indexed
    pub laid_by : (change : Change) → IsWhole old → IsSideOf tie gone change.gone → IsSideOf tie come change.come → IsLaidBy (if_newest tie (newest_rank old.events)) indexes change
    laid_by change whole left c = record {
      comes = comes_by change.come whole c;
      goes = λ rank side r is. goes_by tie indexes indexed change.gone left side is;
    }

    -- the same of what it takes away alone
    pub gone_by : (side : Option Side) → IsSideOf tie gone side → IsLaidBy (if_newest tie (newest_rank old.events)) indexes (record { gone = side; come = None })
    gone_by o left = record {
      comes = λ rank side r is. absurd (none_is_some side is);
      goes = λ rank side r is. goes_by tie indexes indexed o left side is;
    }

-- a function of what there is under the rule
pub map_if_newest : {X Y : Type 0} (f : X → Y) (tie : Tie) (x : X) → option_map f (if_newest tie x) ≡ if_newest tie (f x)
map_if_newest f Newest x = refl
map_if_newest f LatestStart x = refl
