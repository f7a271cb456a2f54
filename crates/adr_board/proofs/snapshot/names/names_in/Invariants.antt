use Rattle.std.proofs.Common.{take}
use Rattle.std.specs.List.{flat_map}
use Rattle.adr_board.specs.Types.{edit_names, ArePrivate}
use Rattle.adr_board.proofs.snapshot.names.names_in.Given as goal

-- the edits so far bring no others
abbrev pub invariant-loop-place : goal.invariant-loop-place
invariant-loop-place l = ArePrivate (flat_map edit_names (take l.place l.edits))
