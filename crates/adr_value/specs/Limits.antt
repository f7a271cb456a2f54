-- The limits of a server's objects.
use Rattle.std.specs.Prelude.{ℕ, ◌≤◌}
use Rattle.adr_value.specs.declared.limits.TheConstants.{MOST_PROGRAMS, MOST_VENS, MOST_RESOURCES, MOST_EVENTS, MOST_ENTRIES, MOST_INTERVALS}

-- objects of each kind, entries in all, and intervals of one event
pub record Limits : Type 0 where
  pub programs : ℕ
  pub vens : ℕ
  pub resources : ℕ
  pub events : ℕ
  pub entries : ℕ
  pub intervals : ℕ

-- the limits in force
abbrev pub limits : Limits
limits = record { programs = MOST_PROGRAMS; vens = MOST_VENS; resources = MOST_RESOURCES; events = MOST_EVENTS; entries = MOST_ENTRIES; intervals = MOST_INTERVALS }

-- those that were in force first
abbrev pub first_limits : Limits
first_limits = record { programs = 1024; vens = 4096; resources = 4096; events = 4096; entries = 65536; intervals = 4096 }

-- none of the limits is above that of the others
pub record AreWithin (a b : Limits) : Type 0 where
  pub programs : a.programs ≤ b.programs
  pub vens : a.vens ≤ b.vens
  pub resources : a.resources ≤ b.resources
  pub events : a.events ≤ b.events
  pub entries : a.entries ≤ b.entries
  pub intervals : a.intervals ≤ b.intervals
