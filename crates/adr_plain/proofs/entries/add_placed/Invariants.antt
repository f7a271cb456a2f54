use Rattle.std.proofs.Common.{◌≡◌, ◌++◌, length}
use Rattle.adr_plain.specs.Scan.{placed_entries, written_event}
use Rattle.adr_plain.proofs.entries.add_placed.Given as goal

-- the entries so far, and then those of the intervals that are left
abbrev pub invariant-rest : goal.invariant-rest
invariant-rest l =
    l.entries.items ++ placed_entries l.payload_type (written_event l.event l.written) l.intervals l.places
    ≡ l.fn.entries.items ++ placed_entries l.payload_type (written_event l.event l.written) l.event.intervals l.fn.places

abbrev pub decreases-rest : goal.decreases-rest
decreases-rest l = length l.places
