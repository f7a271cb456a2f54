-- What is made of groups before places move.
use Rattle.std.proofs.Common.{◌≡◌, ◌⊎◌, inl, inr, ℕ, ℤ, ◌+◌, ◌≤◌, ◌==◌, ◌||◌, Bool, true, false, List, [], ◌∷◌, ◌++◌, length, flat_map, sum_by, slice_get, take, drop, Option, Some, None, refl, ap, sym, subst, ◌∙◌, eqb-true, append_assoc, append-nil, arith}
use Rattle.std.specs.Prelude.{MatchOption}
use Rattle.std.specs.List.{AllZip}
use Rattle.std.specs.Option.{option_map_or}
use Rattle.adr_model.specs.declared.entry.Tie.{Tie}
use Rattle.adr_model.specs.declared.written.Written.{Written}
use Rattle.adr_value.specs.declared.payload.PayloadType.{PayloadType}
use Rattle.adr_model.specs.Governor.{entries_of}
use Rattle.adr_model.specs.Lists.{In}
use Rattle.adr_lines.specs.declared.grouped.TypeEntries.{TypeEntries}
use Rattle.adr_lines.specs.Grouped.{any_covers_at, entries_under}
use Rattle.adr_lines.specs.Right.{has_number}
use Rattle.adr_lines.specs.declared.indexes.Indexes.{Indexes}
use Rattle.adr_lines.specs.Exchange.{IsIndexOf}
use Rattle.adr_group.specs.declared.job.RepairJob.{RepairJob}
use Rattle.adr_group.specs.Group.{AreWindowsOf, IsRightOf, Lines}
use Rattle.adr_group.specs.Jobs.{most_done, AreGathered, IsJobOf}
use Rattle.adr_group.specs.Repair.{most_repaired}
use Rattle.adr_group.proofs.Tasks.{jobs_compare, most_asked, tasks_compare}
use Rattle.adr_shared.specs.Map.{put}
use Rattle.adr_schedule.specs.declared.change.Change.{Change}
use Rattle.adr_schedule.specs.declared.change.Side.{Side}
use Rattle.adr_schedule.specs.declared.draft.Draft.{Draft}
use Rattle.adr_schedule.specs.Draft.{most_drafted, tasks_of, AreDraftsIn, AreDraftsOf, AreMadeOf, AreMadeSoFar, AreSeen, IsDraftOf, IsMadeOf, IsSame, IsSeen}
use Rattle.adr_schedule.specs.Moves.{is_among, AreMadeFor}
use Rattle.adr_schedule.specs.Shift.{entries_in, kept_side, most_shifted, sides_for, AreTwo, Becomes}
use Rattle.adr_schedule.specs.Slots.{in_slot}
use Rattle.std.proofs.lemmas.List.Sums.{sum_by-append, sum_by-cons, sum_by_push}
use Rattle.adr_schedule.proofs.Least.{repaired_shifted}
use Rattle.adr_schedule.proofs.Numbered.{one_or_other, put_elsewhere, put_here}
use Rattle.adr_schedule.proofs.Seated.{none_is_some, some_same}
use Rattle.adr_schedule.proofs.Variant.{becomes_itself, becomes_repaired, kept_is}

-- ---- lists with one more

pub in_before : {X : Type 0} (x : X) (xs ys : List X) → In x xs → In x (xs ++ ys)
in_before x [] ys h = absurd h
in_before x (y ∷ xs) ys (inl e) = inl e
in_before x (y ∷ xs) ys (inr m) = inr (in_before x xs ys m)

pub in_last : {X : Type 0} (x : X) (xs : List X) → In x (xs ++ x ∷ [])
in_last x [] = inl refl
in_last x (y ∷ xs) = inr (in_last x xs)

pub in_either : {X : Type 0} (x y : X) (xs : List X) → In x (xs ++ y ∷ []) → In x xs ⊎ (y ≡ x)
in_either x y [] (inl e) = inr e
in_either x y [] (inr h) = absurd h
in_either x y (z ∷ xs) (inl e) = inl (inl e)
in_either x y (z ∷ xs) (inr m) = by (in_either x y xs m)
  where
    by : In x xs ⊎ (y ≡ x) → In x (z ∷ xs) ⊎ (y ≡ x)
    by (inl h) = inl (inr h)
    by (inr e) = inr e

-- ---- the windows of a change

module _ (change : Change) (writes : List ℕ) where
  -- the entries of the sides that make a difference, and of the change that has them
  pub gone_entries : (s : Side) → kept_side true writes change.gone ≡ Some s → entries_in change.gone ≡ s.entries.items
  gone_entries s gone = ap entries_in (kept_is true writes change.gone s gone)

  pub come_entries : (s : Side) → kept_side false writes change.come ≡ Some s → entries_in change.come ≡ s.entries.items
  come_entries s come = ap entries_in (kept_is false writes change.come s come)

-- ---- what drafts compare

-- the tasks of all drafts compare no more than their windows do
pub all_compare : (indexes : Indexes) (drafts : List Draft) → sum_by (most_asked indexes) (flat_map tasks_of drafts) ≡ most_drafted indexes drafts
all_compare indexes [] = refl
all_compare indexes (d ∷ drafts) =
    let parts = sum_by-append (most_asked indexes) (tasks_of d) (flat_map tasks_of drafts) in
    let own = tasks_compare indexes d.group d.writes d.windows.items in
    let rest = all_compare indexes drafts in
    let first = sum_by-cons (λ (x : Draft). most_repaired x.windows.items x.writes indexes) d drafts in
    omega (arith, parts, own, rest, first)

-- so their jobs compare no more
pub jobs_compare_all : (indexes : Indexes) (drafts : List Draft) (slice jobs : List RepairJob) → slice ≡ jobs → AllZip (IsJobOf indexes) (flat_map tasks_of drafts) jobs → sum_by (most_done indexes) slice ≤ most_drafted indexes drafts
jobs_compare_all indexes drafts slice jobs same fit =
    let least = jobs_compare indexes (flat_map tasks_of drafts) jobs fit in
    let whole = all_compare indexes drafts in
    let sliced = ap (sum_by (most_done indexes)) same in
    omega (arith, least, whole, sliced)

pub jobs_compare_one : (indexes : Indexes) (draft : Draft) (slice jobs : List RepairJob) → slice ≡ jobs → AllZip (IsJobOf indexes) (tasks_of draft) jobs → sum_by (most_done indexes) slice ≤ most_repaired draft.windows.items draft.writes indexes
jobs_compare_one indexes draft slice jobs same fit =
    let least = jobs_compare indexes (tasks_of draft) jobs fit in
    let whole = tasks_compare indexes draft.group draft.writes draft.windows.items in
    let sliced = ap (sum_by (most_done indexes)) same in
    omega (arith, least, whole, sliced)

-- a draft of a group compares what the change asks of it
pub draft_compares : (change : Change) (indexes : Indexes) (g : Lines) (d : Draft) → AreTwo change → IsDraftOf change g d → most_repaired d.windows.items d.writes indexes ≡ most_shifted change indexes g
draft_compares change indexes g d two of = of.windows.cost d.writes indexes ∙ repaired_shifted change indexes g d.writes two of.writes

-- ---- what is made of drafts

-- what was built for the first draft, and for the others
pub split_done : {X D : Type 0} (R : X → D → Type 0) (xs ys : List X) (done : List D) → AllZip R (xs ++ ys) done → AllZip R xs (take (length xs) done) × AllZip R ys (drop (length xs) done)
split_done R [] ys done h = (tt, h)
split_done R (x ∷ xs) ys [] h = absurd h
split_done R (x ∷ xs) ys (d ∷ done) h = let r = split_done R xs ys done h.1 in ((h.0, r.0), r.1)

pub long_done : {X D : Type 0} (R : X → D → Type 0) (xs ys : List X) (done : List D) → AllZip R (xs ++ ys) done → length xs ≤ length done
long_done R [] ys done h = omega arith
long_done R (x ∷ xs) ys [] h = absurd h
long_done R (x ∷ xs) ys (d ∷ done) h = let r = long_done R xs ys done h.1 in omega (arith, r)

-- at the end no place is left
pub seen_at_end : {P : Type 0} (rest : List ℕ) (place : ℕ) → rest ≡ [] → (is_among rest place ≡ true) ⊎ P → P
seen_at_end rest place none (inl h) = absurd (nothing (subst (λ l. is_among l place ≡ true) none h))
  where
    nothing : is_among [] place ≡ true → ⊥
    nothing k = absurd (cc)
seen_at_end rest place none (inr p) = p

-- one job more, and then those of the tasks that are left
pub one_job : {X J : Type 0} (R : X → J → Type 0) (all xs : List X) (x : X) (jobs new more : List J) (j : J) → new ≡ jobs ++ j ∷ [] → R x j
    → ((ms : List J) → AllZip R (x ∷ xs) ms → AllZip R all (jobs ++ ms)) → AllZip R xs more → AllZip R all (new ++ more)
one_job R all xs x jobs new more j pushed fits before zip =
    subst (λ l. AllZip R all l) (sym (ap (λ l. l ++ more) pushed ∙ append_assoc jobs (j ∷ []) more)) (before (j ∷ more) (fits, zip))

zip_both : {X J : Type 0} (R : X → J → Type 0) (xs ys : List X) (us vs : List J) → AllZip R xs us → AllZip R ys vs → AllZip R (xs ++ ys) (us ++ vs)
zip_both R [] ys [] vs h k = k
zip_both R [] ys (u ∷ us) vs h k = absurd h
zip_both R (x ∷ xs) ys [] vs h k = absurd h
zip_both R (x ∷ xs) ys (u ∷ us) vs h k = (h.0, zip_both R xs ys us vs h.1 k)

-- the jobs of one draft more
pub more_jobs : {X J : Type 0} (R : X → J → Type 0) (all xs ys : List X) (jobs new own more : List J) → new ≡ jobs ++ own → AllZip R xs own
    → ((ms : List J) → AllZip R (xs ++ ys) ms → AllZip R all (jobs ++ ms)) → AllZip R ys more → AllZip R all (new ++ more)
more_jobs R all xs ys jobs new own more added fits before zip =
    subst (λ l. AllZip R all l) (sym (ap (λ l. l ++ more) added ∙ append_assoc jobs own more)) (before (own ++ more) (zip_both R xs ys own more fits zip))

-- all of them
pub every_job : {X J : Type 0} (R : X → J → Type 0) (all : List X) (jobs : List J) → AllZip R all (jobs ++ []) → AllZip R all jobs
every_job R all jobs zip = subst (λ l. AllZip R all l) (append-nil jobs) zip

-- one more is made
pub one_made : (indexes : Indexes) (drafts rest more : List Draft) (d : Draft) (made after : List (List ℕ × Lines)) (h : Lines)
    → rest ≡ d ∷ more → after ≡ put (d.slot ∷ []) h made → IsMadeOf indexes d h
    → AreMadeSoFar indexes drafts rest made → AreMadeSoFar indexes drafts more after
one_made indexes drafts rest more d made after h is added right a = record {
  of = λ s x k. of s x (subst (λ z. in_slot z s ≡ Some x) added k) (one_or_other s d.slot);
  has = λ e m. has e (a.has e m);
  left = λ e m. a.left e (subst (λ l. In e l) (sym is) (inr m));
}
  where
    of : (s : ℕ) (x : Lines) → in_slot (put (d.slot ∷ []) h made) s ≡ Some x → (s ≡ d.slot) ⊎ (s ≡ d.slot → ⊥) → (e : Draft) × In e drafts × (e.slot ≡ s) × IsMadeOf indexes e x
    of s x k (inl e) =
        let same : h ≡ x = some_same h x (sym (put_here made d.slot h) ∙ subst (λ z. in_slot (put (d.slot ∷ []) h made) z ≡ Some x) e k) in
        (d, a.left d (subst (λ l. In d l) (sym is) (inl refl)), sym e, subst (λ z. IsMadeOf indexes d z) same right)
    of s x k (inr apart) = a.of s x (sym (put_elsewhere made d.slot s h apart) ∙ k)

    there : (s : ℕ) → (s ≡ d.slot) ⊎ (s ≡ d.slot → ⊥) → (x : Lines) × (in_slot made s ≡ Some x) → (x : Lines) × (in_slot (put (d.slot ∷ []) h made) s ≡ Some x)
    there s (inl e) k = (h, ap (λ z. in_slot (put (d.slot ∷ []) h made) z) e ∙ put_here made d.slot h)
    there s (inr apart) k = (k.0, put_elsewhere made d.slot s h apart ∙ k.1)

    first : (e : Draft) → In e (d ∷ more) → In e more ⊎ ((x : Lines) × (in_slot after e.slot ≡ Some x))
    first e (inl same) = inr (h, ap (λ z. in_slot z e.slot) added ∙ subst (λ z. in_slot (put (d.slot ∷ []) h made) z.slot ≡ Some h) same (put_here made d.slot h))
    first e (inr m) = inl m

    has : (e : Draft) → In e rest ⊎ ((x : Lines) × (in_slot made e.slot ≡ Some x)) → In e more ⊎ ((x : Lines) × (in_slot after e.slot ≡ Some x))
    has e (inl m) = first e (subst (λ l. In e l) is m)
    has e (inr k) = let t = there e.slot (one_or_other e.slot d.slot) k in inr (t.0, ap (λ z. in_slot z e.slot) added ∙ t.1)

-- at first none is made
pub none_made : (indexes : Indexes) (drafts : List Draft) (made : List (List ℕ × Lines)) → made ≡ [] → AreMadeSoFar indexes drafts drafts made
none_made indexes drafts made none = record { of = λ s h k. absurd (nothing s h (subst (λ (m : List (List ℕ × Lines)). in_slot m s ≡ Some h) none k)); has = λ d m. inl m; left = λ d m. m }
  where
    nothing : (s : ℕ) (h : Lines) → in_slot {G = Lines} [] s ≡ Some h → ⊥
    nothing s h k = absurd (cc)

-- all are made
pub every_made : (indexes : Indexes) (drafts rest : List Draft) (made : List (List ℕ × Lines)) → rest ≡ [] → AreMadeSoFar indexes drafts rest made → AreMadeOf indexes drafts made
every_made indexes drafts rest made none a = record { of = a.of; has = λ d m. has d (a.has d m) }
  where
    has : (d : Draft) → In d rest ⊎ ((h : Lines) × (in_slot made d.slot ≡ Some h)) → (h : Lines) × (in_slot made d.slot ≡ Some h)
    has d (inl m) = absurd (subst (λ l. In d l) none m)
    has d (inr k) = k

-- windows that cover what others do hold what those hold
alike_within : (events : List Written) (writes others : List ℕ) (windows wide : List TypeEntries) → AreGathered windows wide
    → AreWindowsOf events writes others (entries_under wide) → AreWindowsOf events writes others (entries_under windows)
alike_within events writes others windows wide alike within w m = by (within w m)
  where
    by : (has_number writes w.written ≡ has_number others w.written)
        ⊎ ((k : PayloadType) (t : ℤ) → any_covers_at (entries_of k w) t ≡ true → any_covers_at (entries_under wide k) t ≡ true)
        → (has_number writes w.written ≡ has_number others w.written)
        ⊎ ((k : PayloadType) (t : ℤ) → any_covers_at (entries_of k w) t ≡ true → any_covers_at (entries_under windows k) t ≡ true)
    by (inl e) = inl e
    by (inr f) = inr (λ k t c. alike.covers k t ∙ f k t c)

-- what was made of a group's draft is right of what the group was, where the windows hold what its old and new writes differ on
pub made_right : (indexes : Indexes) (g h : Lines) (d : Draft) (writes : List ℕ) (windows : List TypeEntries)
    → d.group ≡ g → d.writes ≡ writes → AreGathered d.windows.items windows → IsMadeOf indexes d h
    → (tie : Tie) (events : List Written) → IsIndexOf tie events indexes → AreWindowsOf events g.writes writes (entries_under windows)
    → IsRightOf tie events g → IsRightOf tie events h
made_right indexes g h d writes windows group own alike made tie events index within right =
    made.right tie events index
    (subst (λ (x : Lines). AreWindowsOf events x.writes d.writes (entries_under d.windows.items)) (sym group)
    (subst (λ ws. AreWindowsOf events g.writes ws (entries_under d.windows.items)) (sym own) (alike_within events g.writes writes d.windows.items windows alike within)))
    (subst (λ x. IsRightOf tie events x) (sym group) right)

-- ---- what becomes of the groups

module _ (change : Change) (indexes : Indexes) (two : AreTwo change) where
  -- what was made of a group's draft is what becomes of it
  draft_becomes : (g h : Lines) (d : Draft) → IsDraftOf change g d → IsMadeOf indexes d h → Becomes change indexes g h
  draft_becomes g h d of made =
      becomes_repaired change indexes g h two
      (λ n. ap (λ ws. has_number ws n) made.writes ∙ of.writes n)
      (λ tie events index windows right. made.right tie events index (λ w m. within tie events w (windows w m)) (subst (λ x. IsRightOf tie events x) (sym of.group) right))
    where
      within : (tie : Tie) (events : List Written) (w : Written)
          → (has_number g.writes w.written ≡ has_number h.writes w.written)
          ⊎ ((k : PayloadType) (t : ℤ) → any_covers_at (entries_of k w) t ≡ true → any_covers_at (entries_under (sides_for change g.writes) k) t ≡ true)
          → (has_number d.group.writes w.written ≡ has_number d.writes w.written)
          ⊎ ((k : PayloadType) (t : ℤ) → any_covers_at (entries_of k w) t ≡ true → any_covers_at (entries_under d.windows.items k) t ≡ true)
      within tie events w (inl e) = inl (ap (λ (x : Lines). has_number x.writes w.written) of.group ∙ e ∙ ap (λ ws. has_number ws w.written) made.writes)
      within tie events w (inr f) = inr (λ k t c. of.windows.covers k t ∙ f k t c)

  -- so what was made for the slots of the places is what becomes of their groups
  pub all_become : (places seats : List ℕ) (groups : List (List ℕ × Lines)) (drafts : List Draft) (made : List (List ℕ × Lines))
      → AreDraftsIn change groups drafts
      → ((place slot : ℕ) → is_among places place ≡ true → slice_get seats place ≡ Some slot → IsSeen change groups drafts slot)
      → AreMadeOf indexes drafts made → AreMadeFor (Becomes change indexes) places seats groups made
  all_become places seats groups drafts made valid seen all place slot among at g here = by (in_slot made slot) refl (seen place slot among at g here)
    where
      by : (o : Option Lines) → in_slot made slot ≡ o → IsSame change g ⊎ ((d : Draft) × In d drafts × (d.slot ≡ slot)) → MatchOption o (Becomes change indexes g g) (λ h. Becomes change indexes g h)
      by None e (inl same) = becomes_itself change indexes g same.0 same.1
      by None e (inr (d, m, is)) = let h = all.has d m in absurd (none_is_some h.0 (sym e ∙ subst (λ z. in_slot made z ≡ Some h.0) is h.1))
      by (Some h) e s = let m = all.of slot h e in draft_becomes g h m.0 (valid m.0 m.1 g (subst (λ z. in_slot groups z ≡ Some g) (sym m.2) here)) m.3

-- ---- one place after the other

module _ (change : Change) (groups : List (List ℕ × Lines)) where
  -- what was seen stays so where there are more drafts
  pub seen_grows : (list new : List Draft) (slot : ℕ) → ((d : Draft) → In d list → In d new) → IsSeen change groups list slot → IsSeen change groups new slot
  seen_grows list new slot grows seen g here = by (seen g here)
    where
      by : IsSame change g ⊎ ((d : Draft) × In d list × (d.slot ≡ slot)) → IsSame change g ⊎ ((d : Draft) × In d new × (d.slot ≡ slot))
      by (inl same) = inl same
      by (inr (d, m, is)) = inr (d, grows d m, is)

  -- a draft is added
  module _ (list new : List Draft) (draft : Draft) (slot : ℕ) (group : Lines) (here : in_slot groups slot ≡ Some group) (pushed : new ≡ list ++ draft ∷ []) (own : draft.slot ≡ slot) (of : IsDraftOf change group draft) where
    pub add_valid : AreDraftsIn change groups list → AreDraftsIn change groups new
    add_valid before d m g at = by (in_either d draft list (subst (λ l. In d l) pushed m))
      where
        by : In d list ⊎ (draft ≡ d) → IsDraftOf change g d
        by (inl old) = before d old g at
        by (inr same) =
            let one : group ≡ g = some_same group g (sym here ∙ subst (λ z. in_slot groups z ≡ Some g) (ap (λ (x : Draft). x.slot) (sym same) ∙ own) at) in
            subst (λ z. IsDraftOf change g z) same (subst (λ x. IsDraftOf change x draft) one of)

    -- and each is of the group that it has
    pub add_own : AreDraftsOf change list → AreDraftsOf change new
    add_own before d m = by (in_either d draft list (subst (λ l. In d l) pushed m))
      where
        by : In d list ⊎ (draft ≡ d) → IsDraftOf change d.group d
        by (inl old) = before d old
        by (inr same) = subst (λ (x : Draft). IsDraftOf change x.group x) same (subst (λ g. IsDraftOf change g draft) (sym of.group) of)

    pub add_grows : (d : Draft) → In d list → In d new
    add_grows d m = subst (λ l. In d l) (sym pushed) (in_before d list (draft ∷ []) m)

    pub add_seen : IsSeen change groups new slot
    add_seen g k = inr (draft, subst (λ l. In draft l) (sym pushed) (in_last draft list), own)

    pub add_least : AreTwo change → (indexes : Indexes) → most_drafted indexes new ≤ most_drafted indexes list + option_map_or (most_shifted change indexes) (in_slot groups slot) 0
    add_least two indexes =
        let parts = ap (most_drafted indexes) pushed ∙ sum_by_push (λ (d : Draft). most_repaired d.windows.items d.writes indexes) list draft in
        let cost = draft_compares change indexes group draft two of in
        let asked = ap (λ o. option_map_or (most_shifted change indexes) o 0) here in
        omega (arith, parts, cost, asked)

  -- a slot is known
  pub add_known : (list new : List Draft) (seen later : List (List ℕ × ℕ)) (slot : ℕ) → later ≡ put (slot ∷ []) slot seen → ((d : Draft) → In d list → In d new)
      → IsSeen change groups new slot → AreSeen change groups list seen → AreSeen change groups new later
  add_known list new seen later slot added grows first before s t k = by (one_or_other s slot)
    where
      by : (s ≡ slot) ⊎ (s ≡ slot → ⊥) → IsSeen change groups new s
      by (inl e) = subst (λ z. IsSeen change groups new z) (sym e) first
      by (inr apart) = seen_grows list new s grows (before s t (sym (put_elsewhere seen slot s slot apart) ∙ subst (λ z. in_slot z s ≡ Some t) added k))

  -- the next place was looked at
  pub next_seen : (list new : List Draft) (seats rest more : List ℕ) (place : ℕ) → rest ≡ place ∷ more → ((d : Draft) → In d list → In d new)
      → ((s : ℕ) → slice_get seats place ≡ Some s → IsSeen change groups new s)
      → (p s : ℕ) → slice_get seats p ≡ Some s → (is_among rest p ≡ true) ⊎ IsSeen change groups list s → (is_among more p ≡ true) ⊎ IsSeen change groups new s
  next_seen list new seats rest more place is grows first p s at (inr known) = inr (seen_grows list new s grows known)
  next_seen list new seats rest more place is grows first p s at (inl left) = by (place == p) refl (subst (λ l. is_among l p ≡ true) is left)
    where
      by : (b : Bool) → (place == p) ≡ b → (b || is_among more p) ≡ true → (is_among more p ≡ true) ⊎ IsSeen change groups new s
      by true e h = inr (first s (subst (λ z. slice_get seats z ≡ Some s) (sym (eqb-true place p e)) at))
      by false e h = inl h
