-- The work of a repair, in jobs that may be done apart.
use Rattle.std.specs.Prelude.{◌≡◌, ◌<◌, ◌≤◌, ◌^◌, ℕ, ℤ, true, List, map, sum_by, Option, Result, IfOk, IfSome}
use Rattle.std.specs.Borrow.{Bor}
use Rattle.std.specs.List.{AllZip}
use Rattle.std.specs.Option.{option_map_or}
use Rattle.adr_refusal.specs.Answer.{OnlyNoMemory}
use Rattle.adr_refusal.specs.declared.refusal.Refusal.{Refusal}
use Rattle.adr_value.specs.Same.{same_type}
use Rattle.adr_value.specs.declared.payload.PayloadType.{PayloadType}
use Rattle.adr_model.specs.declared.entry.Entry.{Entry}
use Rattle.adr_model.specs.declared.timeline.Segment.{Segment}
use Rattle.adr_model.specs.declared.timeline.Winner.{Winner}
use Rattle.adr_model.specs.Governor.{winner_at}
use Rattle.adr_model.specs.Timeline.{shows}
use Rattle.adr_lines.specs.declared.grouped.TypeEntries.{TypeEntries}
use Rattle.adr_lines.specs.Grouped.{any_covers_at, entries_under, HaveOwnTypes}
use Rattle.adr_lines.specs.Right.{written_in}
use Rattle.adr_lines.specs.declared.indexes.Indexes.{Indexes}
use Rattle.adr_lines.specs.Indexes.{under}
use Rattle.adr_group.specs.declared.job.Done.{Done}
use Rattle.adr_group.specs.declared.job.RepairJob.{RepairJob}
use Rattle.adr_group.specs.Group.{shown_in, Lines}
use Rattle.adr_group.specs.Laid.{most_exchanged, IsHeld}
use Rattle.adr_group.specs.Repair.{most_inside, most_repaired, IsRepaired}

-- the indexed entries of the job's type
abbrev pub indexed_for : Indexes → RepairJob → List Entry
indexed_for indexes job = under indexes job.windows.payload_type

-- the line is the job's, repaired inside its windows; where something is held of the line, if it is right
abbrev pub IsAfter : Indexes → RepairJob → List Segment → Type 0
IsAfter indexes job after =
    IfSome job.held (λ h. IsHeld job.writes (indexed_for indexes job) job.windows.entries.items job.line h)
    → IsRepaired job.writes (indexed_for indexes job) job.windows.entries.items (shows job.line) after

abbrev pub IsDone : Indexes → RepairJob → Done → Type 0
IsDone indexes job done = IsAfter indexes job done.line

-- to do the job compares at most so much
abbrev pub most_done : Indexes → RepairJob → ℕ
most_done indexes job =
    option_map_or (λ h. most_exchanged job.writes (indexed_for indexes job) job.windows.entries.items h) job.held
    (most_inside job.writes (indexed_for indexes job) job.windows.entries.items)

-- the timeline of the windows' type is to be made of that of a group, which gets these writes
pub record Task : Type 0 where
  pub group : Lines
  pub writes : List ℕ
  pub windows : TypeEntries

abbrev pub tasks_for : Lines → List ℕ → List TypeEntries → List Task
tasks_for group writes windows = map (λ w. record { group = group; writes = writes; windows = w }) windows

-- the indexed entries of the task's type
abbrev pub indexed_of : Indexes → Task → List Entry
indexed_of indexes task = under indexes task.windows.payload_type

-- what the group shows of the type
abbrev pub shown_of : Task → ℤ → Option Winner
shown_of task t = shown_in task.group.lines task.windows.payload_type t

-- the group shows of the type what wins among its writes
abbrev pub IsRightBefore : Indexes → Task → Type 0
IsRightBefore indexes task = (t : ℤ) → shown_of task t ≡ winner_at (written_in task.group.writes (indexed_of indexes task)) t

-- if it does, then the line is repaired inside the windows
abbrev pub IsTaskDone : Indexes → Task → Done → Type 0
IsTaskDone indexes task done = IsRightBefore indexes task → IsRepaired task.writes (indexed_of indexes task) task.windows.entries.items (shown_of task) done.line

-- the job does the task, and compares no more than to build what wins inside the windows
pub record IsJobOf (indexes : Indexes) (task : Task) (job : RepairJob) : Type 0 where
  pub writes : job.writes ≡ task.writes
  pub windows : job.windows ≡ task.windows
  pub line : (t : ℤ) → shows job.line t ≡ shown_of task t
  pub held : IsRightBefore indexes task → IfSome job.held (λ h. IsHeld task.writes (indexed_of indexes task) task.windows.entries.items job.line h)
  pub cost : most_done indexes job ≤ most_inside task.writes (indexed_of indexes task) task.windows.entries.items

-- of each type the same is shown, however it is named
abbrev pub IsOfType : (PayloadType → ℤ → Option Winner) → Type 0
IsOfType shown = (a b : PayloadType) (t : ℤ) → same_type a b ≡ true → shown a t ≡ shown b t

-- the line shows this of the windows' type
abbrev pub ShowsOf : (PayloadType → ℤ → Option Winner) → TypeEntries → Done → Type 0
ShowsOf shown windows done = (t : ℤ) → shows done.line t ≡ shown windows.payload_type t

-- the windows are those of the others under each type, cover what these do, and as much is compared in them
pub record AreAlike (windows others : List TypeEntries) : Type 0 where
  pub under : (k : PayloadType) → entries_under windows k ≡ entries_under others k
  pub covers : (k : PayloadType) (t : ℤ) → any_covers_at (entries_under windows k) t ≡ any_covers_at (entries_under others k) t
  pub cost : (writes : List ℕ) (indexes : Indexes) → most_repaired windows writes indexes ≡ most_repaired others writes indexes

-- the same, and each type is there once
pub record AreGathered (windows others : List TypeEntries) : Type 0 where
  pub own : HaveOwnTypes windows
  pub under : (k : PayloadType) → entries_under windows k ≡ entries_under others k
  pub covers : (k : PayloadType) (t : ℤ) → any_covers_at (entries_under windows k) t ≡ any_covers_at (entries_under others k) t
  pub cost : (writes : List ℕ) (indexes : Indexes) → most_repaired windows writes indexes ≡ most_repaired others writes indexes

-- each job was done, in order, and no more was compared than all may
pub record AreDone (indexes : Indexes) (jobs : List RepairJob) (done : List Done) : Type 0 where
  pub each : AllZip (IsDone indexes) jobs done
  pub compared : sum_by (λ d. d.compared) done ≤ sum_by (most_done indexes) jobs

-- whoever is called so does jobs: it may be called with any, and answers what was done, or that
-- there was no memory
pub record IsCrew {V : Type 0} (items : V → List Done) (pre : Bor Indexes → Bor (List RepairJob) → Type 0) (post : Bor Indexes → Bor (List RepairJob) → Result V Refusal → Type 0) : Type 0 where
  pub may : (i : Bor Indexes) (jobs : Bor (List RepairJob)) → pre i jobs
  pub does : (i : Bor Indexes) (jobs : Bor (List RepairJob)) (r : Result V Refusal) → post i jobs r → IfOk r (λ v. AreDone i.now jobs.now (items v))
  pub refuses : (i : Bor Indexes) (jobs : Bor (List RepairJob)) (r : Result V Refusal) → post i jobs r → OnlyNoMemory r
