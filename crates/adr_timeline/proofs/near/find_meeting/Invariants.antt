use Rattle.std.proofs.Common.{◌≡◌, ◌++◌, drop}
use Rattle.adr_model.specs.Entries.{meeting}
use Rattle.adr_timeline.proofs.near.find_meeting.Given as goal

-- those that are left come after the found
abbrev pub invariant-loop-entry : goal.invariant-loop-entry
invariant-loop-entry l = l.found.items ++ meeting (drop l.entry-index l.entries) l.window ≡ meeting l.entries l.window
