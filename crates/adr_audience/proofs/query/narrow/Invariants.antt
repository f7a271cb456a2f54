use Rattle.std.proofs.Common.{◌≡◌, ℕ, ◌<◌, ◌&&◌, take, get_or, [], length}
use Rattle.std.specs.List.{list_all}
use Rattle.adr_keys.specs.Places.{has}
use Rattle.adr_keys.specs.Rows.{offers_key}
use Rattle.adr_audience.specs.Query.{meets_value, meets_type}
use Rattle.adr_audience.proofs.query.narrow.Given as goal

-- the types so far are met
abbrev pub invariant-loop-target : goal.invariant-loop-target
invariant-loop-target l = (p : ℕ) → p < length l.index → has l.found p ≡ (has l.fn.found p && list_all (λ t. meets_type (meets_value l.event l.program (offers_key (get_or l.index p []))) l.targets t.kind) (take l.target-index l.targets))
