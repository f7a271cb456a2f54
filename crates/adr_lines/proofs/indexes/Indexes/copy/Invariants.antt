use Rattle.std.proofs.Common.{◌≡◌, List, ℕ}
use Rattle.std.specs.List.{IsDistinct}
use Rattle.std.specs.Map.{keys_of}
use Rattle.std.specs.String.{string_eq}
use Rattle.adr_lines.proofs.Copied.{entries_left}
use Rattle.adr_lines.proofs.Put.{entries_at}
use Rattle.adr_lines.proofs.indexes.Indexes.copy.Given as goal

-- under each name there is what is left to copy, or else what is copied; and no name is left twice
abbrev pub invariant-loop-name : goal.invariant-loop-name
invariant-loop-name l = record {
  entries : (id : List ℕ) → entries_left l.name-iterator l.by_name id ≡ entries_at l.self.by_name id;
  distinct : IsDistinct string_eq (keys_of l.name-iterator);
}
