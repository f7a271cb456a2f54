use Rattle.std.proofs.Common.{◌≡◌, ℕ, ◌-◌, ◌≤◌, List, length}
use Rattle.std.specs.Prelude.{pos}
use Rattle.json.specs.Json.{parse_map}
use Rattle.serde_json.specs.Data.{Data}
use Rattle.adr_read.specs.Listed.{AreOf}
use Rattle.adr_read.proofs.Turns.{listed, items_before}
use Rattle.adr_read.proofs.lists.BoundedVecRead.read.Given as goal

abbrev pub invariant-elements : goal.invariant-elements
invariant-elements g l =
    (n : ℕ) × (ds : List Data)
    × (length l.reader ≤ n)
    × (listed (l.depth - 1) (length l.initial.reader) l.initial.reader ≡ parse_map (items_before ds) (listed (l.depth - 1) n l.reader))
    × AreOf g.row.LIMIT g.T.Read.faults (λ n. g.T.Read.stands_for (record { moment = l.fn.context.moment; place = pos n })) l.items l.elements.count l.elements.faults ds

abbrev pub decreases-elements : goal.decreases-elements
decreases-elements g l = length l.reader
