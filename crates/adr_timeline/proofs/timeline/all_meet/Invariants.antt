use Rattle.std.proofs.Common.{◌≡◌, drop}
use Rattle.adr_model.specs.Entries.{meeting}
use Rattle.adr_timeline.proofs.timeline.all_meet.Given as goal

-- where those that are left meet it, so do all
abbrev pub invariant-loop-entry : goal.invariant-loop-entry
invariant-loop-entry l = meeting (drop l.entry-index l.entries) l.window ≡ drop l.entry-index l.entries → meeting l.entries l.window ≡ l.entries
