-- Jobs that do the tasks of a group, and the group that is put together of what they made.
use Rattle.std.proofs.Common.{◌≡◌, inl, inr, ℕ, ℤ, ◌+◌, ◌≤◌, ◌||◌, Bool, true, false, cond, if◌then◌else◌, List, [], ◌∷◌, ◌++◌, map, sum_by, Option, None, refl, ap, sym, subst, ◌∙◌, append-nil, arith}
use Rattle.std.specs.Prelude.{IfSome}
use Rattle.std.specs.List.{AllByRecursion, AllZip, IsDistinct}
use Rattle.std.specs.HashMap.{get_by_text}
use Rattle.std.specs.Option.{option_map_or}
use Rattle.std.specs.Str.{bytes_eq}
use Rattle.std.proofs.lemmas.List.Sums.{sum_by-cons}
use Rattle.adr_value.specs.Payload.{name_of}
use Rattle.adr_value.specs.Same.{same_type}
use Rattle.adr_value.specs.declared.payload.PayloadType.{PayloadType}
use Rattle.adr_shared.specs.Map.{lookup}
use Rattle.adr_model.specs.declared.entry.Entry.{Entry}
use Rattle.adr_model.specs.declared.entry.Tie.{Tie}
use Rattle.adr_model.specs.declared.written.Written.{Written}
use Rattle.adr_lines.specs.Exchange.{IsIndexOf}
use Rattle.adr_lines.proofs.Right.{held_wins}
use Rattle.adr_model.specs.declared.timeline.Segment.{Segment}
use Rattle.adr_model.specs.declared.timeline.Winner.{Winner}
use Rattle.adr_model.specs.Governor.{winner_at}
use Rattle.adr_model.specs.Lists.{In}
use Rattle.adr_model.specs.Timeline.{shows}
use Rattle.adr_model.proofs.Lists.{bytes_eq_self}
use Rattle.adr_lines.specs.declared.grouped.TypeEntries.{TypeEntries}
use Rattle.adr_lines.specs.Grouped.{any_covers_at, entries_under, HaveOwnTypes}
use Rattle.adr_lines.specs.Right.{written_in}
use Rattle.adr_lines.specs.declared.indexes.Indexes.{Indexes}
use Rattle.adr_lines.specs.Indexes.{has_type, under}
use Rattle.adr_lines.proofs.Groups.{none_under}
use Rattle.adr_group.specs.declared.job.Done.{Done}
use Rattle.adr_group.specs.declared.job.RepairJob.{RepairJob}
use Rattle.adr_group.specs.Group.{shown_in, IsRightOf, Lines}
use Rattle.adr_group.specs.Jobs.{indexed_of, most_done, tasks_for, IsDone, IsJobOf, IsOfType, IsTaskDone, ShowsOf, Task}
use Rattle.adr_group.specs.Laid.{IsHeld}
use Rattle.adr_group.specs.Repair.{most_inside, most_repaired, IsRepaired}
use Rattle.adr_group.proofs.Turns.{one_name, wins}

-- ---- from jobs to tasks

-- what a job made of a task's line is what the task asks for
task_done : (indexes : Indexes) (task : Task) (job : RepairJob) (done : Done) → IsJobOf indexes task job → IsDone indexes job done → IsTaskDone indexes task done
task_done indexes task job done of made right t = after t ∙ ap (λ (o : Option Winner). if any_covers_at task.windows.entries.items t then winner_at (written_in task.writes (indexed_of indexes task)) t else o) (of.line t)
  where
    made_of : (ws : List ℕ) (g : TypeEntries) → job.writes ≡ ws → job.windows ≡ g
        → IfSome job.held (λ h. IsHeld ws (under indexes g.payload_type) g.entries.items job.line h)
        → IsRepaired ws (under indexes g.payload_type) g.entries.items (shows job.line) done.line
    made_of ws g e f = rw (sym e, sym f) made

    after : IsRepaired task.writes (indexed_of indexes task) task.windows.entries.items (shows job.line) done.line
    after = made_of task.writes task.windows of.writes of.windows (of.held right)

pub tasks_done : (indexes : Indexes) (tasks : List Task) (jobs : List RepairJob) (done : List Done) → AllZip (IsJobOf indexes) tasks jobs → AllZip (IsDone indexes) jobs done → AllZip (IsTaskDone indexes) tasks done
tasks_done indexes [] [] [] a b = tt
tasks_done indexes [] [] (d ∷ ds) a b = b
tasks_done indexes [] (j ∷ js) ds a b = absurd a
tasks_done indexes (x ∷ xs) [] ds a b = absurd a
tasks_done indexes (x ∷ xs) (j ∷ js) [] a b = absurd b
tasks_done indexes (x ∷ xs) (j ∷ js) (d ∷ ds) a b = (task_done indexes x j d a.0 b.0, tasks_done indexes xs js ds a.1 b.1)

-- the jobs compare no more than to build what wins inside the windows of the tasks
abbrev pub most_asked : Indexes → Task → ℕ
most_asked indexes task = most_inside task.writes (indexed_of indexes task) task.windows.entries.items

pub jobs_compare : (indexes : Indexes) (tasks : List Task) (jobs : List RepairJob) → AllZip (IsJobOf indexes) tasks jobs → sum_by (most_done indexes) jobs ≤ sum_by (most_asked indexes) tasks
jobs_compare indexes [] [] a = omega arith
jobs_compare indexes [] (j ∷ js) a = absurd a
jobs_compare indexes (x ∷ xs) [] a = absurd a
jobs_compare indexes (x ∷ xs) (j ∷ js) a =
    let first = a.0.cost in
    let rest = jobs_compare indexes xs js a.1 in
    let left = sum_by-cons (most_done indexes) j js in
    let right = sum_by-cons (most_asked indexes) x xs in
    omega (arith, first, rest, left, right)

pub tasks_compare : (indexes : Indexes) (group : Lines) (writes : List ℕ) (windows : List TypeEntries) → sum_by (most_asked indexes) (tasks_for group writes windows) ≡ most_repaired windows writes indexes
tasks_compare indexes group writes [] = refl
tasks_compare indexes group writes (g ∷ windows) =
    sum_by-cons (most_asked indexes) (record { group = group; writes = writes; windows = g }) (tasks_for group writes windows)
    ∙ ap (λ n. most_inside writes (under indexes g.payload_type) g.entries.items + n) (tasks_compare indexes group writes windows)

-- ---- windows of which each type is there once

same_itself : (k : PayloadType) → same_type k k ≡ true
same_itself k = bytes_eq_self (name_of k)

apart_from : (k : PayloadType) (gs : List TypeEntries) (w : TypeEntries) → AllByRecursion (λ b. same_type k b ≡ false) (map (λ (g : TypeEntries). g.payload_type) gs) → In w gs → same_type k w.payload_type ≡ false
apart_from k [] w h m = absurd m
apart_from k (g ∷ gs) w h (inl same) = subst (λ (x : TypeEntries). same_type k x.payload_type ≡ false) same h.0
apart_from k (g ∷ gs) w h (inr m) = apart_from k gs w h.1 m

-- what is under the type of one of them is its own
pub own_whole : (gs : List TypeEntries) (w : TypeEntries) → HaveOwnTypes gs → In w gs → entries_under gs w.payload_type ≡ w.entries.items
unfolding IsDistinct
own_whole [] w own m = absurd m
own_whole (g ∷ gs) w own (inl same) = subst (λ (x : TypeEntries). entries_under (g ∷ gs) x.payload_type ≡ x.entries.items) same first
  where
    first : entries_under (g ∷ gs) g.payload_type ≡ g.entries.items
    first =
        ap (λ (b : Bool). cond b g.entries.items [] ++ entries_under gs g.payload_type) (same_itself g.payload_type)
        ∙ (ap (λ (es : List Entry). g.entries.items ++ es) (none_under g.payload_type g.payload_type (same_itself g.payload_type) gs own.0) ∙ append-nil g.entries.items)
own_whole (g ∷ gs) w own (inr m) =
    ap (λ (b : Bool). cond b g.entries.items [] ++ entries_under gs w.payload_type) (apart_from g.payload_type gs w own.0 m)
    ∙ own_whole gs w own.1 m

-- ---- what is put together

module _ (indexes : Indexes) (group : Lines) (writes : List ℕ) (windows : List TypeEntries) where
  -- what is to be shown of each type
  abbrev pub shown_then : PayloadType → ℤ → Option Winner
  shown_then k t = if any_covers_at (entries_under windows k) t then wins indexes writes k t else shown_in group.lines k t

  pub then_of_type : IsOfType shown_then
  then_of_type a b t same = ap named (one_name a b same)
    where
      named : List ℕ → Option Winner
      named n =
          if any_covers_at (flat_named n windows) t
          then winner_at (written_in writes (option_map_or (λ i. i.entries) (get_by_text indexes.by_name n) [])) t
          else option_map_or (λ line. shows line t) (lookup n group.lines) None
        where
          flat_named : List ℕ → List TypeEntries → List Entry
          flat_named n [] = []
          flat_named n (g ∷ gs) = (if bytes_eq (name_of g.payload_type) n then g.entries.items else []) ++ flat_named n gs

  module _ (own : HaveOwnTypes windows) (right : (k : PayloadType) (t : ℤ) → shown_in group.lines k t ≡ wins indexes group.writes k t) where
    each_then : (rest : List TypeEntries) (done : List Done) → ((w : TypeEntries) → In w rest → In w windows) → AllZip (IsTaskDone indexes) (tasks_for group writes rest) done → AllZip (ShowsOf shown_then) rest done
    each_then [] [] among a = tt
    each_then [] (d ∷ ds) among a = a
    each_then (w ∷ ws) [] among a = absurd a
    each_then (w ∷ ws) (d ∷ ds) among a = (
      λ t. a.0 (right w.payload_type) t
          ∙ ap (λ (es : List Entry). if any_covers_at es t then wins indexes writes w.payload_type t else shown_in group.lines w.payload_type t) (sym (own_whole windows w own (among w (inl refl)))),
      each_then ws ds (λ v m. among v (inr m)) a.1,
    )

    pub all_then : (done : List Done) → AllZip (IsTaskDone indexes) (tasks_for group writes windows) done → AllZip (ShowsOf shown_then) windows done
    all_then done = each_then windows done (λ w m. m)

  no_type : (gs : List TypeEntries) (k : PayloadType) → has_type gs k ≡ false → entries_under gs k ≡ []
  no_type [] k h = refl
  no_type (g ∷ gs) k h = by (same_type g.payload_type k) h (λ m. no_type gs k m)
    where
      by : (b : Bool) → (b || has_type gs k) ≡ false → (has_type gs k ≡ false → entries_under gs k ≡ []) → cond b g.entries.items [] ++ entries_under gs k ≡ []
      by true m rest = absurd (cc)
      by false m rest = rest m

  -- of types that no window has the same is shown
  pub shown_all : (k : PayloadType) (t : ℤ) (new : Option Winner) → new ≡ (if has_type windows k then shown_then k t else shown_in group.lines k t) → new ≡ shown_then k t
  shown_all k t new made = made ∙ by (has_type windows k) refl
    where
      by : (b : Bool) → has_type windows k ≡ b → (if b then shown_then k t else shown_in group.lines k t) ≡ shown_then k t
      by true h = refl
      by false h = sym (ap (λ (es : List Entry). if any_covers_at es t then wins indexes writes k t else shown_in group.lines k t) (no_type windows k h))

-- a group that is right of the indexed events shows what wins among its writes
pub right_before : (tie : Tie) (events : List Written) (indexes : Indexes) (group : Lines) → IsIndexOf tie events indexes → IsRightOf tie events group → (k : PayloadType) (t : ℤ) → shown_in group.lines k t ≡ wins indexes group.writes k t
unfolding IsIndexOf
right_before tie events indexes group indexed right k t = right k t ∙ sym (held_wins tie events k (under indexes k) group.writes t (indexed k))

-- one type more is put in
pub next_put : (shown : PayloadType → ℤ → Option Winner) → IsOfType shown → (rest more : List TypeEntries) (g : TypeEntries) (line : List Segment) (before after : List (List ℕ × List Segment)) → rest ≡ g ∷ more
    → ((t : ℤ) → shows line t ≡ shown g.payload_type t)
    → ((k : PayloadType) (t : ℤ) → shown_in after k t ≡ (if same_type g.payload_type k then shows line t else shown_in before k t))
    → (k : PayloadType) (t : ℤ) → (if has_type more k then shown k t else shown_in after k t) ≡ (if has_type rest k then shown k t else shown_in before k t)
next_put shown of_type rest more g line before after is one put k t =
    by (same_type g.payload_type k) (has_type more k) refl (put k t) ∙ ap (λ (gs : List TypeEntries). if has_type gs k then shown k t else shown_in before k t) (sym is)
  where
    by : (a b : Bool) → same_type g.payload_type k ≡ a → shown_in after k t ≡ (if a then shows line t else shown_in before k t)
        → (if b then shown k t else shown_in after k t) ≡ (if a || b then shown k t else shown_in before k t)
    by true true s h = refl
    by true false s h = h ∙ one t ∙ of_type g.payload_type k t s
    by false true s h = refl
    by false false s h = h
