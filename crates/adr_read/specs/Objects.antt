-- The objects: what is wrong with each, and what it stands for.
use Rattle.std.specs.Prelude.{ℕ, ℤ, pos, List, [], ◌++◌, codes, option_map, unwrap_or}
use Rattle.serde_json.specs.Data.{Data}
use Rattle.adr_value.specs.Limits.{Limits, limits}
use Rattle.adr_refusal.specs.declared.refusal.Refusal.{Refusal}
use Rattle.adr_refusal.specs.declared.refusal.Refusal.TheVariants.{WrongKind, IdMismatch}
use Rattle.adr_object.specs.declared.event.Event.{Event}
use Rattle.adr_object.specs.declared.event.Target.{Target}
use Rattle.adr_object.specs.declared.party.Program.{Program}
use Rattle.adr_object.specs.declared.party.Ven.{Ven}
use Rattle.adr_object.specs.declared.party.Resource.{Resource}
use Rattle.adr_read.specs.Looking.{member_at, the}
use Rattle.adr_read.specs.Sets.{required, optional, list_faults, list_in}
use Rattle.adr_read.specs.Values.{text_faults, name_faults, id_faults, equal_faults, text_in, priority_faults, priority_in, targets_faults, targets_in}
use Rattle.adr_read.specs.Periods.{period_faults, period_in, interval_faults, interval_in}

-- a body may name its kind and its id, and these have to be the line's
abbrev pub common_faults : List ℕ → List ℕ → Data → List Refusal
common_faults kind id d =
    optional (equal_faults kind WrongKind) (member_at (codes "objectType") d) ++ optional (equal_faults id IdMismatch) (member_at (codes "id") d)

-- no targets are an empty list
abbrev pub own_targets_faults : Data → List Refusal
own_targets_faults d = optional targets_faults (member_at (codes "targets") d)

abbrev pub own_targets : Data → List Target
own_targets d = unwrap_or (option_map targets_in (member_at (codes "targets") d)) []

-- ---- programs

unfoldable pub program_faults : List ℕ → Data → List Refusal
program_faults id d =
    common_faults (codes "PROGRAM") id d ++ required name_faults (member_at (codes "programName") d) ++ own_targets_faults d

unfoldable pub program_in : List ℕ → Data → Program
program_in id d = record { id = id; program_name = text_in (the (codes "programName") d); targets = own_targets d }

-- ---- vens

unfoldable pub ven_faults : List ℕ → Data → List Refusal
ven_faults id d =
    common_faults (codes "VEN") id d ++ required name_faults (member_at (codes "venName") d) ++ own_targets_faults d

unfoldable pub ven_in : List ℕ → Data → Ven
ven_in id d = record { id = id; ven_name = text_in (the (codes "venName") d); targets = own_targets d }

-- ---- resources

unfoldable pub resource_faults : List ℕ → Data → List Refusal
resource_faults id d =
    common_faults (codes "RESOURCE") id d ++ required name_faults (member_at (codes "resourceName") d) ++ required id_faults (member_at (codes "venID") d) ++ own_targets_faults d

unfoldable pub resource_in : List ℕ → Data → Resource
resource_in id d = record {
  id = id;
  resource_name = text_in (the (codes "resourceName") d);
  ven_id = text_in (the (codes "venID") d);
  targets = own_targets d;
}

-- ---- events

-- a program, and perhaps a name and a priority
abbrev pub event_head_faults : List ℕ → Data → List Refusal
event_head_faults id d =
    common_faults (codes "EVENT") id d ++ required id_faults (member_at (codes "programID") d) ++ optional text_faults (member_at (codes "eventName") d) ++ optional priority_faults (member_at (codes "priority") d)

-- perhaps targets and a default period, and intervals up to a limit
abbrev pub event_tail_faults_by : Limits → Data → List Refusal
event_tail_faults_by l d =
    own_targets_faults d
    ++ optional period_faults (member_at (codes "intervalPeriod") d)
    ++ required (list_faults l.intervals interval_faults) (member_at (codes "intervals") d)

unfoldable pub event_faults_by : Limits → List ℕ → Data → List Refusal
event_faults_by l id d = event_head_faults id d ++ event_tail_faults_by l d

-- under the limits in force
abbrev pub event_tail_faults : Data → List Refusal
event_tail_faults d = event_tail_faults_by limits d

abbrev pub event_faults : List ℕ → Data → List Refusal
event_faults id d = event_faults_by limits id d

unfoldable pub event_in : ℤ → List ℕ → Data → Event
event_in now id d = record {
  id = id;
  program_id = text_in (the (codes "programID") d);
  event_name = option_map text_in (member_at (codes "eventName") d);
  priority = option_map priority_in (member_at (codes "priority") d);
  targets = own_targets d;
  interval_period = option_map (period_in now) (member_at (codes "intervalPeriod") d);
  intervals = list_in (λ place. interval_in now (pos place)) (the (codes "intervals") d);
}
