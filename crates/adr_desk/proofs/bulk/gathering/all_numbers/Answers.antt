use Rattle.std.proofs.Common.{sym, ◌∙◌}
use Rattle.adr_desk.proofs.Choosing.{next_number}
use Rattle.adr_desk.proofs.bulk.gathering.all_numbers.Goals as goal

pub loop-place-preserved : goal.loop-place-preserved
loop-place-preserved c =
    next_number c.args.book.now.objects.events c.loop-place.place c.in-Some.number c.loop-place.numbers.items c.push.new.self.items
    (sym c.in-Some.is ∙ c.written_at.ensures) c.loop-place.invariant c.in_ok-push.ensures.items
