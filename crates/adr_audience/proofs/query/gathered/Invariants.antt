use Rattle.std.proofs.Common.{◌≡◌, ℕ, ◌<◌, ◌&&◌, true, take, bytes_eq, get_or, [], length}
use Rattle.std.specs.List.{list_any}
use Rattle.adr_keys.specs.Places.{has, fits}
use Rattle.adr_keys.specs.Rows.{offers_key}
use Rattle.adr_audience.specs.Query.{is_offered}
use Rattle.adr_audience.proofs.query.gathered.Given as goal

-- the maps so far are gathered
abbrev pub invariant-loop-other : goal.invariant-loop-other
invariant-loop-other l = record {
  places : (p : ℕ) → p < length l.index → has l.group p ≡ list_any (λ u. bytes_eq u.kind l.kind && list_any (is_offered (offers_key (get_or l.index p [])) l.kind) u.values) (take l.other-index l.targets);
  room : (p : ℕ) → p < length l.index → fits l.group p ≡ true;
}
