use Rattle.std.proofs.Common.{◌≡◌, ℕ, ◌+◌, ◌*◌, ◌≤◌, length}
use Rattle.json.specs.Json.{items, members, value}
use Rattle.json.proofs.Grammar.{left}
use Rattle.serde_json.specs.Data.{Members}
use Rattle.serde_json.specs.Read.{of_items, of_members, converted}
use Rattle.adr_read.specs.Coming.{coming_items, coming_members}
use Rattle.adr_read.proofs.skip.+skip.Given as goal

abbrev pub decreases-skip : goal.decreases-skip
decreases-skip l = 3 * l.depth

abbrev pub decreases-skip_next : goal.decreases-skip_next
decreases-skip_next l = 3 * l.depth + 1

abbrev pub decreases-skip_items : goal.decreases-skip_items
decreases-skip_items l = 3 * l.depth + 2

abbrev pub decreases-skip_members : goal.decreases-skip_members
decreases-skip_members l = 3 * l.depth + 2

abbrev pub invariant-skip_items-items : goal.invariant-skip_items-items
invariant-skip_items-items l = record {
  turns : ℕ;
  enough : length l.reader ≤ turns;
  same : left (coming_items l.depth l.initial.reader) ≡ left (converted of_items (items (value l.depth) turns l.reader));
}

abbrev pub decreases-skip_items-items : goal.decreases-skip_items-items
decreases-skip_items-items l = length l.reader

abbrev pub invariant-skip_members-members : goal.invariant-skip_members-members
invariant-skip_members-members l = record {
  turns : ℕ;
  held : Members;
  enough : length l.reader ≤ turns;
  same : coming_members l.depth l.initial.reader ≡ converted (λ ms. of_members ms held) (members (value l.depth) turns l.reader);
}

abbrev pub decreases-skip_members-members : goal.decreases-skip_members-members
decreases-skip_members-members l = length l.reader
