-- The jobs that lay an event over groups, or take one out.
use Rattle.std.proofs.Common.{◌≡◌, ◌⊎◌, inl, inr, ◌↔◌, ℕ, suc, ℤ, ◌+◌, ◌*◌, ◌≤◌, ◌==◌, ◌||◌, Bool, true, false, if◌then◌else◌, List, [], ◌∷◌, ◌++◌, drop, length, take, Option, Some, None, refl, ap, sym, subst, ◌∙◌, option_to_list, arith}
use Rattle.std.specs.Prelude.{Result, Ok, Err, IfOk, IfSome}
use Rattle.std.specs.Option.{option_map, option_map_or}
use Rattle.std.proofs.lemmas.Bool.{both_ways, eq-eqb, eqb-true, false≢true}
use Rattle.adr_value.specs.declared.payload.PayloadType.{PayloadType}
use Rattle.adr_time.specs.Spans.{lasts, meets}
use Rattle.adr_time.specs.declared.span.Span.{Span}
use Rattle.adr_model.specs.declared.entry.Entry.{Entry}
use Rattle.adr_model.specs.declared.entry.Rank.{Rank}
use Rattle.adr_model.specs.declared.timeline.Winner.{Winner}
use Rattle.adr_model.specs.Entries.{meeting}
use Rattle.adr_model.specs.Governor.{winner_at, winner_of}
use Rattle.adr_model.specs.Lists.{In}
use Rattle.adr_model.specs.Timeline.{shows}
use Rattle.adr_model.proofs.Lists.{In-filter, In-from_filter}
use Rattle.adr_timeline.specs.Overlay.{spans_of}
use Rattle.adr_timeline.specs.Steps.{is_run, rank_at}
use Rattle.adr_timeline.specs.Windows.{any_covers}
use Rattle.adr_timeline.proofs.Runs.{run_parts}
use Rattle.adr_lines.specs.declared.grouped.TypeEntries.{TypeEntries}
use Rattle.adr_lines.specs.Grouped.{entries_under}
use Rattle.adr_lines.specs.Right.{has_number, written_in}
use Rattle.adr_lines.specs.declared.indexes.Indexes.{Indexes}
use Rattle.adr_lines.specs.Indexes.{under}
use Rattle.adr_group.specs.declared.job.Held.{Held}
use Rattle.adr_group.specs.declared.job.RepairJob.{RepairJob}
use Rattle.adr_group.specs.Group.{shown_in}
use Rattle.adr_group.specs.Jobs.{IsJobOf, IsRightBefore, Task}
use Rattle.adr_group.specs.Laid.{most_exchanged, AreOwnOf, IsComing, IsHeld, IsMet}
use Rattle.adr_group.specs.Repair.{most_inside}
use Rattle.adr_group.specs.Writes.{changed_number, is_number}
use Rattle.adr_group.proofs.Joining.{ranks_held}
use Rattle.adr_group.proofs.Costs.{cost_rises}
use Rattle.adr_group.proofs.Seen.{inside_append}
use Rattle.adr_group.proofs.Tasks.{own_whole}
use Rattle.adr_group.proofs.Turns.{under_both}
use Rattle.adr_schedule.specs.declared.change.Change.{Change}
use Rattle.adr_schedule.specs.declared.change.Side.{Side}
use Rattle.adr_schedule.specs.declared.draft.Draft.{Draft}
use Rattle.adr_schedule.specs.Draft.{IsDraftOf}
use Rattle.adr_schedule.specs.Shift.{entries_in, kept_side, number_in, IsLaidBy}
use Rattle.adr_schedule.proofs.Variant.{kept_is}

-- ---- what the entries of an event compare at least

-- a list with a member is not empty
some_in : {X : Type 0} (x : X) (xs : List X) → In x xs → 1 ≤ length xs
some_in x [] m = absurd m
some_in x (y ∷ ys) m = omega arith

-- a span that lasts meets itself
meets_self : (s : Span) → lasts s ≡ true → meets s s ≡ true
meets_self s h = rw h refl

module _ (indexes : Indexes) (writes : List ℕ) (number : ℕ) (has : has_number writes number ≡ true) where
  -- each indexed entry of a write that lasts is compared where it is a window
  inside_least : (k : PayloadType) (es : List Entry) → ((e : Entry) → In e es → In e (under indexes k) × (e.rank.written ≡ number)) → is_run es ≡ true
      → 3 * length es ≤ most_inside writes (under indexes k) es
  inside_least k [] own run = omega arith
  inside_least k (e ∷ es) own run =
      let parts = run_parts e es run in
      let mine = own e (inl refl) in
      let written : In e (written_in writes (under indexes k)) = In-filter (λ (x : Entry). has_number writes x.rank.written) (under indexes k) e mine.0 (subst (λ n. has_number writes n ≡ true) (sym mine.1) has) in
      let met : In e (meeting (written_in writes (under indexes k)) e.span) = In-filter (λ (x : Entry). meets x.span e.span) (written_in writes (under indexes k)) e written (meets_self e.span parts.0) in
      by (length (meeting (written_in writes (under indexes k)) e.span)) (length es) (most_inside writes (under indexes k) es)
      (cost_rises 1 (length (meeting (written_in writes (under indexes k)) e.span)) (some_in e (meeting (written_in writes (under indexes k)) e.span) met))
      (inside_least k es (λ x m. own x (inr m)) parts.2)
    where
      by : (n m rest : ℕ) → 1 * (2 * 1 + 1) ≤ n * (2 * n + 1) → 3 * m ≤ rest → 3 * suc m ≤ n * (2 * n + 1) + rest
      by n m rest one more = omega (arith, one, more)

-- ---- the numbers of the events that make a difference

-- the one that goes is among the writes
was_there : (writes : List ℕ) (o : Option Side) (side : Side) → kept_side true writes o ≡ Some side → has_number writes side.written ≡ true
was_there writes None side h = absurd (cc)
was_there writes (Some s) side h = by (has_number writes s.written) refl h
  where
    by : (b : Bool) → has_number writes s.written ≡ b → (if b then Some s else None) ≡ Some side → has_number writes side.written ≡ true
    by true k e = let one : s ≡ side = cc in subst (λ (x : Side). has_number writes x.written ≡ true) one k
    by false k e = absurd (cc)

-- and the one that comes is not
not_there : (writes : List ℕ) (o : Option Side) (side : Side) → kept_side false writes o ≡ Some side → has_number writes side.written ≡ false
not_there writes None side h = absurd (cc)
not_there writes (Some s) side h = by (has_number writes s.written) refl h
  where
    by : (b : Bool) → has_number writes s.written ≡ b → (if b then None else Some s) ≡ Some side → has_number writes side.written ≡ false
    by true k e = absurd (cc)
    by false k e = let one : s ≡ side = cc in subst (λ (x : Side). has_number writes x.written ≡ false) one k

-- ---- two lists, one behind the other

take_front : {X : Type 0} (xs ys : List X) → take (length xs) (xs ++ ys) ≡ xs
take_front [] ys = none ys
  where
    none : {X : Type 0} (zs : List X) → take 0 zs ≡ []
    none [] = refl
    none (z ∷ zs) = refl
take_front (x ∷ xs) ys = ap (λ l. x ∷ l) (take_front xs ys)

drop_front : {X : Type 0} (xs ys : List X) → drop (length xs) (xs ++ ys) ≡ ys
drop_front [] ys = refl
drop_front (x ∷ xs) ys = drop_front xs ys

pub front_fits : {X : Type 0} (xs ys zs : List X) → zs ≡ xs ++ ys → length xs ≤ length zs
front_fits xs ys zs is = subst (λ l. length xs ≤ length l) (sym is) (shorter xs ys)
  where
    shorter : {X : Type 0} (xs ys : List X) → length xs ≤ length (xs ++ ys)
    shorter [] ys = omega arith
    shorter (x ∷ xs) ys = let rest = shorter xs ys in omega (arith, rest)

-- ---- one side that comes and one that goes, of one type

module _ (rank : Winner → Rank) (indexes : Indexes) (k : PayloadType) (ws : List ℕ) where
  abbrev es : List Entry
  es = under indexes k

  -- the writes with the number that comes
  abbrev pub with_come : Option Side → List ℕ
  with_come come = option_to_list (number_in come) ++ ws

  abbrev come_of : Option Side → List Entry
  come_of come = entries_under (entries_in come) k

  -- the entries of both writes are the old ones and those that come
  both_come : (come : Option Side) → ((s : Side) → come ≡ Some s → IsComing indexes rank s.written s.entries.items)
      → (e : Entry) → In e (written_in (with_come come) es) ↔ (In e (written_in ws es) ⊎ In e (come_of come))
  both_come None coming e = (λ m. inl m, λ m. by m)
    where
      by : In e (written_in ws es) ⊎ In e [] → In e (written_in ws es)
      by (inl n) = n
      by (inr n) = absurd n
  both_come (Some s) coming e = (λ m. there (In-from_filter of_both es e m), λ m. back m)
    where
      of_both : Entry → Bool
      of_both x = has_number (s.written ∷ ws) x.rank.written

      own : (In e es × (e.rank.written ≡ s.written)) ↔ In e (come_of (Some s))
      own = (coming s refl).own k e

      there : In e es × (has_number (s.written ∷ ws) e.rank.written ≡ true) → In e (written_in ws es) ⊎ In e (come_of (Some s))
      there f = by (s.written == e.rank.written) refl f.1
        where
          by : (b : Bool) → (s.written == e.rank.written) ≡ b → (b || has_number ws e.rank.written) ≡ true → In e (written_in ws es) ⊎ In e (come_of (Some s))
          by true same h = inr (own.0 (f.0, sym (eqb-true s.written e.rank.written same)))
          by false same h = inl (In-filter (λ (x : Entry). has_number ws x.rank.written) es e f.0 h)

      has_both : (a b : Bool) → (a ≡ true) ⊎ (b ≡ true) → (a || b) ≡ true
      has_both true b h = refl
      has_both false b (inl h) = absurd (false≢true h)
      has_both false b (inr h) = h

      back : In e (written_in ws es) ⊎ In e (come_of (Some s)) → In e (written_in (s.written ∷ ws) es)
      back (inl m) =
          let f = In-from_filter (λ (x : Entry). has_number ws x.rank.written) es e m in
          In-filter (λ (x : Entry). has_number (s.written ∷ ws) x.rank.written) es e f.0 (has_both (s.written == e.rank.written) (has_number ws e.rank.written) (inr f.1))
      back (inr m) =
          let f = own.1 m in
          In-filter (λ (x : Entry). has_number (s.written ∷ ws) x.rank.written) es e f.0 (has_both (s.written == e.rank.written) (has_number ws e.rank.written) (inl (eq-eqb s.written e.rank.written (sym f.1))))

  -- where an entry comes the ranks are those of the old ones
  old_ranks : (come : Option Side) → ((s : Side) → come ≡ Some s → IsComing indexes rank s.written s.entries.items) → ((s : Side) → come ≡ Some s → has_number ws s.written ≡ false)
      → (t : ℤ) → any_covers (spans_of (come_of come)) t ≡ true → option_map rank (winner_at (written_in ws es) t) ≡ rank_at (written_in ws es) t
  old_ranks None coming lacks t c = absurd (false≢true c)
  old_ranks (Some s) coming lacks t c = ranks_held rank (written_in ws es) t held
    where
      held : (e : Entry) → In e (written_in ws es) → rank (winner_of e) ≡ e.rank
      held e m =
          let f = In-from_filter (λ (x : Entry). has_number ws x.rank.written) es e m in
          (coming s refl).ranks k e f.0 (λ same. both_ways (has_number ws s.written) (lacks s refl) (subst (λ n. has_number ws n ≡ true) same f.1))

  -- the numbers change as one comes, and then the other goes
  numbers_then : (gone come : Option Side) → ((s : Side) → come ≡ Some s → has_number ws s.written ≡ false) → ((s : Side) → gone ≡ Some s → has_number ws s.written ≡ true)
      → (n : ℕ) → changed_number (number_in gone) (number_in come) ws n ≡ changed_number (number_in gone) None (with_come come) n
  numbers_then gone None lacks has n = refl
  numbers_then None (Some s) lacks has n = by (s.written == n)
    where
      by : (b : Bool) → (if b then true else has_number ws n) ≡ (b || has_number ws n)
      by true = refl
      by false = refl
  numbers_then (Some l) (Some s) lacks has n = by (s.written == n) refl (l.written == n) refl
    where
      by : (c : Bool) → (s.written == n) ≡ c → (b : Bool) → (l.written == n) ≡ b → (if c then true else if b then false else has_number ws n) ≡ (if b then false else (c || has_number ws n))
      by true c true b =
          let one : l.written ≡ s.written = eqb-true l.written n b ∙ sym (eqb-true s.written n c) in
          absurd (both_ways (has_number ws s.written) (lacks s refl) (ap (has_number ws) (sym one) ∙ has l refl))
      by true c false b = refl
      by false c true b = refl
      by false c false b = refl

  -- the entries of the one that goes
  gone_own : (gone : Option Side) → ((s : Side) → gone ≡ Some s → AreOwnOf indexes s.written s.entries.items)
      → (e : Entry) → In e es → is_number (number_in gone) e.rank.written ≡ true → In e (entries_under (entries_in gone) k)
  gone_own None own e m h = absurd (false≢true h)
  gone_own (Some s) own e m h = (own s refl k e).0 (m, sym (eqb-true s.written e.rank.written h))

  -- to lay those that come compares no more than to build them
  come_least : (come : Option Side) (writes : List ℕ) → ((s : Side) → come ≡ Some s → IsComing indexes rank s.written s.entries.items) → ((s : Side) → come ≡ Some s → has_number writes s.written ≡ true)
      → is_run (come_of come) ≡ true → 3 * length (come_of come) ≤ most_inside writes es (come_of come)
  come_least None writes coming has run = omega arith
  come_least (Some s) writes coming has run = inside_least indexes writes s.written (has s refl) k (come_of (Some s)) (λ e m. ((coming s refl).own k e).1 m) run

-- however few are met, laying compares no more than building
laid_least : (met come most : ℕ) → (met ≤ 2 * come) ⊎ (met + come ≤ most) → 3 * come ≤ most → met + come ≤ most
laid_least met come most (inl few) least = omega (arith, few, least)
laid_least met come most (inr few) least = few

-- ---- the job of one type of a draft

module _ (rank : Winner → Rank) (indexes : Indexes) (change : Change) (laid : IsLaidBy (Some rank) indexes change) (d : Draft) (of : IsDraftOf change d.group d) (w : TypeEntries) (m : In w d.windows.items) where
  abbrev k : PayloadType
  k = w.payload_type

  abbrev ws : List ℕ
  ws = d.group.writes

  abbrev gone : Option Side
  gone = kept_side true ws change.gone

  abbrev come : Option Side
  come = kept_side false ws change.come

  abbrev left : List Entry
  left = entries_under (entries_in gone) k

  abbrev coming : List Entry
  coming = entries_under (entries_in come) k

  comes : (s : Side) → come ≡ Some s → IsComing indexes rank s.written s.entries.items
  comes s h = laid.comes rank s refl (kept_is false ws change.come s h)

  goes : (s : Side) → gone ≡ Some s → AreOwnOf indexes s.written s.entries.items
  goes s h = laid.goes rank s refl (kept_is true ws change.gone s h)

  lacks : (s : Side) → come ≡ Some s → has_number ws s.written ≡ false
  lacks s h = not_there ws change.come s h

  had : (s : Side) → gone ≡ Some s → has_number ws s.written ≡ true
  had s h = was_there ws change.gone s h

  has : (s : Side) → come ≡ Some s → has_number d.writes s.written ≡ true
  has s h = of.writes s.written ∙ (rw h (rw (eq-eqb s.written s.written refl) refl))

  -- the windows are the entries of the one that goes, and then those of the one that comes
  pub whole : w.entries.items ≡ left ++ coming
  whole = sym (own_whole d.windows.items w of.windows.own m) ∙ (of.windows.under k ∙ under_both (entries_in gone) (entries_in come) k)

  module _ (job : RepairJob) (n : ℕ) (writes : job.writes ≡ d.writes) (windows : job.windows ≡ w) (line : (t : ℤ) → shows job.line t ≡ shown_in d.group.lines k t) (count : n ≡ length left)
      (first : IfSome job.held (λ h. h.leaving ≡ n)) (number : IfSome job.held (λ h. h.gone ≡ number_in gone)) (met : IfSome job.held (λ h. IsMet rank d.writes (under indexes k) job.line (drop n w.entries.items) h.shown.items)) where
    abbrev task : Task
    task = record { group = d.group; writes = d.writes; windows = w }

    dropped : drop n w.entries.items ≡ coming
    dropped = ap (λ i. drop i w.entries.items) count ∙ ap (drop (length left)) whole ∙ drop_front left coming

    taken : take n w.entries.items ≡ left
    taken = ap (λ i. take i w.entries.items) count ∙ ap (take (length left)) whole ∙ take_front left coming

    held_right : (h : Held) → h.leaving ≡ n → h.gone ≡ number_in gone → IsMet rank d.writes (under indexes k) job.line (drop n w.entries.items) h.shown.items → IsRightBefore indexes task
        → IsHeld d.writes (under indexes k) w.entries.items job.line h
    held_right h leaving of_gone is_met right = record {
      others = ws;
      both = with_come rank indexes k ws come;
      right = λ t. line t ∙ right t;
      in_turn = is_met.in_turn;
      run = subst (λ i. is_run (drop i w.entries.items) ≡ true) (sym leaving) is_met.run;
      shown = λ t c.
          (let here : any_covers (spans_of (drop n w.entries.items)) t ≡ true = subst (λ i. any_covers (spans_of (drop i w.entries.items)) t ≡ true) leaving c in
          is_met.shows t here
          ∙ (ap (option_map rank) (line t ∙ right t)
          ∙ old_ranks rank indexes k ws come comes lacks t (subst (λ xs. any_covers (spans_of xs) t ≡ true) dropped here)));
      comes = λ e. subst (λ xs. In e (written_in (with_come rank indexes k ws come) (under indexes k)) ↔ (In e (written_in ws (under indexes k)) ⊎ In e xs))
          (sym (ap (λ i. drop i w.entries.items) leaving ∙ dropped)) (both_come rank indexes k ws come comes e);
      goes = λ i. of.writes i ∙ (numbers_then rank indexes k ws gone come lacks had i
          ∙ ap (λ (o : Option ℕ). changed_number o None (with_come rank indexes k ws come) i) (sym of_gone));
      own = λ e i c. subst (λ xs. In e xs) (sym (ap (λ j. take j w.entries.items) leaving ∙ taken))
          (gone_own rank indexes k ws gone goes e i (subst (λ (o : Option ℕ). is_number o e.rank.written ≡ true) of_gone c));
    }

    held_cost : (h : Held) → h.leaving ≡ n → h.gone ≡ number_in gone → IsMet rank d.writes (under indexes k) job.line (drop n w.entries.items) h.shown.items
        → most_exchanged d.writes (under indexes k) w.entries.items h ≤ most_inside d.writes (under indexes k) w.entries.items
    held_cost h leaving of_gone is_met =
        let parts : most_inside d.writes (under indexes k) w.entries.items ≡ most_inside d.writes (under indexes k) left + most_inside d.writes (under indexes k) coming =
        ap (most_inside d.writes (under indexes k)) whole ∙ inside_append d.writes (under indexes k) left coming in
        let few : (length h.shown.items ≤ 2 * length coming) ⊎ (length h.shown.items + length coming ≤ most_inside d.writes (under indexes k) coming) =
        subst (λ xs. (length h.shown.items ≤ 2 * length xs) ⊎ (length h.shown.items + length xs ≤ most_inside d.writes (under indexes k) xs)) dropped is_met.few in
        let most = come_least rank indexes k ws come d.writes comes has (subst (λ xs. is_run xs ≡ true) dropped is_met.run) in
        let both = laid_least (length h.shown.items) (length coming) (most_inside d.writes (under indexes k) coming) few most in
        let here : length (drop h.leaving w.entries.items) ≡ length coming = ap length (ap (λ i. drop i w.entries.items) leaving ∙ dropped) in
        let there = less h.gone in
        omega (arith, parts, both, here, there)
      where
        less : (o : Option ℕ) → option_map_or (λ i. most_inside d.writes (under indexes k) (take h.leaving w.entries.items)) o 0 ≤ most_inside d.writes (under indexes k) left
        less None = omega arith
        less (Some i) = let same = ap (most_inside d.writes (under indexes k)) (ap (λ j. take j w.entries.items) leaving ∙ taken) in omega (arith, same)

    all_cost : (vs : List ℕ) (v : TypeEntries) (o : Option Held) → vs ≡ d.writes → v ≡ w → IfSome o (λ h. h.leaving ≡ n) → IfSome o (λ h. h.gone ≡ number_in gone) → IfSome o (λ h. IsMet rank d.writes (under indexes k) job.line (drop n w.entries.items) h.shown.items)
        → option_map_or (λ h. most_exchanged vs (under indexes v.payload_type) v.entries.items h) o (most_inside vs (under indexes v.payload_type) v.entries.items)
        ≤ most_inside d.writes (under indexes k) w.entries.items
    all_cost vs v None e f a b c = rw (e, f) (omega arith)
    all_cost vs v (Some h) e f a b c = rw (e, f) (held_cost h a b c)

    all_held : (o : Option Held) → IfSome o (λ h. h.leaving ≡ n) → IfSome o (λ h. h.gone ≡ number_in gone) → IfSome o (λ h. IsMet rank d.writes (under indexes k) job.line (drop n w.entries.items) h.shown.items) → IsRightBefore indexes task
        → IfSome o (λ h. IsHeld d.writes (under indexes k) w.entries.items job.line h)
    all_held None a b c right = tt
    all_held (Some h) a b c right = held_right h a b c right

    pub job_exchanges : IsJobOf indexes task job
    job_exchanges = record {
      writes = writes;
      windows = windows;
      line = line;
      held = all_held job.held first number met;
      cost = all_cost job.writes job.windows job.held writes windows first number met;
    }

-- what holds of a result where all of some does
pub all_ok : {T E : Type 0} (r : Result T E) (A B C D F G H : T → Type 0) → IfOk r A → IfOk r B → IfOk r C → IfOk r D → IfOk r F → IfOk r G
    → ((x : T) → A x → B x → C x → D x → F x → G x → H x) → IfOk r H
all_ok (Ok x) A B C D F G H a b c d f g by = by x a b c d f g
all_ok (Err e) A B C D F G H a b c d f g by = tt

-- where nothing is held, the job builds
pub job_builds : (indexes : Indexes) (task : Task) (job : RepairJob) → job.writes ≡ task.writes → job.windows ≡ task.windows → ((t : ℤ) → shows job.line t ≡ shown_in task.group.lines task.windows.payload_type t) → job.held ≡ None
    → IsJobOf indexes task job
job_builds indexes task job writes windows line none = record {
  writes = writes;
  windows = windows;
  line = line;
  held = λ right. held job.held none;
  cost = cost job.writes job.windows job.held writes windows none;
}
  where
    held : (o : Option Held) → o ≡ None → IfSome o (λ h. IsHeld task.writes (under indexes task.windows.payload_type) task.windows.entries.items job.line h)
    held None e = tt
    held (Some h) e = absurd (cc)

    cost : (vs : List ℕ) (v : TypeEntries) (o : Option Held) → vs ≡ task.writes → v ≡ task.windows → o ≡ None
        → option_map_or (λ h. most_exchanged vs (under indexes v.payload_type) v.entries.items h) o (most_inside vs (under indexes v.payload_type) v.entries.items)
        ≤ most_inside task.writes (under indexes task.windows.payload_type) task.windows.entries.items
    cost vs v None e f g = rw (e, f) (omega arith)
    cost vs v (Some h) e f g = absurd (cc)
