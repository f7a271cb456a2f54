use Rattle.std.proofs.Common.{◌≡◌, ℕ, ◌≤◌, [], None, cond, ltb, length, get_or}
use Rattle.adr_keys.specs.declared.key.Key.{Key}
use Rattle.adr_keys.specs.Rows.{renewed}
use Rattle.adr_keys.specs.Sets.{is_ready, IsIndexOf}
use Rattle.adr_keys.proofs.index.exchange_all.Given as goal

-- the rows so far are renewed, and the sets are theirs
abbrev pub invariant-loop-place : goal.invariant-loop-place
invariant-loop-place l = record {
  len : length l.rows.items ≡ length l.fn.rows.items;
  count : length l.fresh.items ≡ length l.fn.fresh.items;
  rows : (q : ℕ) → get_or l.rows.items q [] ≡ cond (ltb q l.place) (get_or (renewed l.fn.fresh.items l.fn.rows.items) q []) (get_or l.fn.rows.items q []);
  fresh : (q : ℕ) → l.place ≤ q → get_or l.fresh.items q None ≡ get_or l.fn.fresh.items q None;
  index : IsIndexOf l.sets.places l.rows.items;
  ready : (k : Key) (q : ℕ) → is_ready l.sets.places k q ≡ is_ready l.fn.sets.places k q;
}
