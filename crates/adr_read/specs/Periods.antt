-- Starts, lengths, periods and intervals: what is wrong with each, and what it stands for.
use Rattle.std.specs.Prelude.{ℤ, pos, List, ◌++◌, codes, option_map, unwrap_or}
use Rattle.serde_json.specs.Data.{Data}
use Rattle.adr_refusal.specs.declared.refusal.Refusal.{Refusal}
use Rattle.adr_time.specs.Lengths.{length_named}
use Rattle.adr_time.specs.Reading.{start_named}
use Rattle.adr_time.specs.declared.length.Length.{Length}
use Rattle.adr_time.specs.declared.length.Length.TheVariants.{Endless}
use Rattle.adr_object.specs.declared.event.Period.{Period}
use Rattle.adr_object.specs.declared.event.Interval.{Interval}
use Rattle.adr_read.specs.Looking.{member_at, the, text_of}
use Rattle.adr_read.specs.Sets.{faults_of, given, of_kind, of_object, required, optional, list_faults, list_in}
use Rattle.adr_read.specs.Values.{text_in, interval_id_faults, interval_id_in, payload_faults, payload_in}

-- ---- starts and lengths

-- whether a start is read is the same at each moment of an edit
abbrev pub start_faults : Data → List Refusal
start_faults d = of_kind (text_of d) (λ t. faults_of (start_named (pos 0) t))

-- a zero start is the moment of the edit
abbrev pub start_in : ℤ → Data → ℤ
start_in now d = given now (start_named now (text_in d))

-- a duration in ISO 8601, not below zero
abbrev pub length_faults : Data → List Refusal
length_faults d = of_kind (text_of d) (λ t. faults_of (length_named t))

abbrev pub length_in : Data → Length
length_in d = given Endless (length_named (text_in d))

-- ---- periods

-- a start, and perhaps a duration and a randomization
unfoldable pub period_faults : Data → List Refusal
period_faults d =
    of_object d (required start_faults (member_at (codes "start") d) ++ optional length_faults (member_at (codes "duration") d) ++ optional length_faults (member_at (codes "randomizeStart") d))

unfoldable pub period_in : ℤ → Data → Period
period_in now d = record {
  start = start_in now (the (codes "start") d);
  duration = option_map length_in (member_at (codes "duration") d);
  randomize = option_map length_in (member_at (codes "randomizeStart") d);
}

-- ---- intervals

-- perhaps an id and a period of its own, and at most 64 payloads
unfoldable pub interval_faults : Data → List Refusal
interval_faults d =
    of_object d (optional interval_id_faults (member_at (codes "id") d) ++ optional period_faults (member_at (codes "intervalPeriod") d) ++ required (list_faults 64 payload_faults) (member_at (codes "payloads") d))

-- an interval without an id has its place
unfoldable pub interval_in : ℤ → ℤ → Data → Interval
interval_in now place d = record {
  id = unwrap_or (option_map interval_id_in (member_at (codes "id") d)) place;
  period = option_map (period_in now) (member_at (codes "intervalPeriod") d);
  payloads = list_in (λ _. payload_in) (the (codes "payloads") d);
}
