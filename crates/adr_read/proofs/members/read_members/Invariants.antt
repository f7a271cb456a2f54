use Rattle.std.proofs.Common.{◌≡◌, ℕ, ◌-◌, ◌≤◌, length}
use Rattle.serde_json.specs.Data.{Members, object, no_members}
use Rattle.adr_read.proofs.Turns.{gathered}
use Rattle.adr_read.proofs.members.read_members.Given as goal

abbrev pub invariant-members : goal.invariant-members
invariant-members g l =
    (n : ℕ) × (found : Members)
    × (length l.reader ≤ n)
    × (gathered (l.depth - 1) (length l.initial.reader) no_members l.initial.reader ≡ gathered (l.depth - 1) n found l.reader)
    × g.M.Members.are_of l.moment l.members (object found)
    × (g.M.Members.names l.members ≡ g.M.Members.names l.initial.members)

abbrev pub decreases-members : goal.decreases-members
decreases-members g l = length l.reader
