use Rattle.adr_book.proofs.Joined.{from_nothing}
use Rattle.adr_book.proofs.book.Book.new.Goals as goal

pub invariant_of-result : goal.invariant_of-result
invariant_of-result c = rw (c.new.ensures, c.new-2.ensures, c.new-3.ensures.closed, c.new-3.ensures.pending) from_nothing
