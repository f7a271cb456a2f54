use Rattle.std.proofs.Common.{◌≡◌, take}
use Rattle.std.specs.List.{flat_map}
use Rattle.adr_plain.specs.Scan.{entries_if_applied}
use Rattle.adr_plain.proofs.entries.entries_for.Given as goal

-- the entries of the events so far
abbrev pub invariant-loop-place : goal.invariant-loop-place
invariant-loop-place l = l.entries.items ≡ flat_map (entries_if_applied l.book.objects l.resource l.payload_type) (take l.place l.book.objects.events)
