use Rattle.std.proofs.Common.{◌≡◌, ◌≤◌, length, take}
use Rattle.adr_value.proofs.list.copy_all.Given as goal

-- the items so far are copied, and there is room for the others
abbrev pub invariant-loop-item : goal.invariant-loop-item
invariant-loop-item g l = record {
  copied : l.copies.items ≡ take l.item-index l.items;
  room : length l.items ≤ l.copies.cap;
}
