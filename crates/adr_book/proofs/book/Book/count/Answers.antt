use Rattle.std.proofs.Common.{◌≤◌, subst, sym}
use Rattle.adr_value.specs.declared.limits.TheConstants.{MOST_VERSION}
use Rattle.adr_model.specs.Edits.{most_objects}
use Rattle.adr_book.specs.Ledger.{joined}
use Rattle.adr_book.proofs.Joined.{counted_within, led_within}
use Rattle.adr_book.proofs.book.Book.count.Goals as goal

pub returns-clause-bound : goal.returns-clause-bound
returns-clause-bound c =
    let inside = c.self.inside in
    subst (λ n. n ≤ most_objects c.args.kind) (sym c.count.ensures)
    (counted_within MOST_VERSION inside.objects (led_within inside.base (joined inside.journal.closed inside.journal.pending) inside.objects c.self.invariant) c.args.kind)
