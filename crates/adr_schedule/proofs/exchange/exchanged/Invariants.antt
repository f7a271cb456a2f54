use Rattle.std.proofs.Common.{◌≡◌, ℕ, length}
use Rattle.adr_schedule.proofs.Exchanged.{then_in}
use Rattle.adr_schedule.proofs.exchange.exchanged.Given as goal

-- what was made for the slots that are left gives what it gives for all
abbrev pub invariant-rest : goal.invariant-rest
invariant-rest l = (s : ℕ) → then_in l.rest l.made l.after s ≡ then_in l.slots l.made l.groups s

abbrev pub decreases-rest : goal.decreases-rest
decreases-rest l = length l.rest
