use Rattle.std.proofs.Common.{◌≡◌, ℕ, ◌||◌, true, take, get_or, []}
use Rattle.std.specs.List.{list_any}
use Rattle.adr_keys.specs.Places.{has, fits}
use Rattle.adr_keys.specs.Rows.{offers_key}
use Rattle.adr_audience.specs.Query.{is_offered}
use Rattle.adr_audience.proofs.query.add_values.Given as goal

-- the values so far are added
abbrev pub invariant-loop-value : goal.invariant-loop-value
invariant-loop-value l = record {
  places : (p : ℕ) → fits l.fn.group p ≡ true → has l.group p ≡ (has l.fn.group p || list_any (is_offered (offers_key (get_or l.index p [])) l.kind) (take l.value-index l.values));
  room : (p : ℕ) → fits l.fn.group p ≡ true → fits l.group p ≡ true;
}
