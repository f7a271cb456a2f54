use Rattle.std.proofs.Common.{subst, sym}
use Rattle.std.specs.List.Sorted.{IsStrictlyIncreasing}
use Rattle.adr_regroup.proofs.Applying.{applying_rise}
use Rattle.adr_regroup.proofs.program.places_for.Goals as goal

pub returns-clause-order : goal.returns-clause-order
returns-clause-order c =
    subst IsStrictlyIncreasing (sym (c.in_ok-places.ensures.places c.args.book.now.objects c.book_laws.ensures.whole c.requires.keys)) (applying_rise c.args.book.now.objects c.args.event.now c.args.program.now)
