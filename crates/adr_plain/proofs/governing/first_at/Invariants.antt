use Rattle.std.proofs.Common.{◌≡◌, filter, take}
use Rattle.adr_time.specs.Spans.{covers}
use Rattle.adr_model.specs.Governor.{first_of}
use Rattle.adr_plain.proofs.governing.first_at.Given as goal

-- the first of the entries so far
abbrev pub invariant-loop-entry : goal.invariant-loop-entry
invariant-loop-entry l = l.found ≡ first_of (filter (λ e. covers e.span l.moment) (take l.entry-index l.entries))
