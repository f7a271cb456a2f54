use Rattle.std.proofs.Common.{◌≤◌, ◌-◌, length}
use Rattle.adr_desk.specs.Bulk.{ArePlanned}
use Rattle.adr_desk.proofs.bulk.sharing.plan_all.Given as goal

-- the resources before have their slots
abbrev pub invariant-rest : goal.invariant-rest
invariant-rest g l = ArePlanned l.book.objects (length l.slots.items) l.slots.items l.jobs.items × (length l.slots.items ≤ length l.book.objects.resources)

abbrev pub decreases-rest : goal.decreases-rest
decreases-rest g l = length l.book.objects.resources - length l.slots.items
