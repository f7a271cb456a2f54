use Rattle.adr_book.proofs.judging.judged_on.Goals as goal

pub invariant_of-result : goal.invariant_of-result
invariant_of-result c = c.in_ok-layout.ensures.layout
