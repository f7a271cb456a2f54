use Rattle.std.proofs.Common.{◌≤◌, subst}
use Rattle.adr_model.specs.Edits.{full_at}
use Rattle.adr_book.specs.Ledger.{joined}
use Rattle.adr_book.proofs.Joined.{led_whole, led_within}
use Rattle.adr_book.proofs.book.Book.book_laws.Goals as goal

pub returns-clause-whole : goal.returns-clause-whole
returns-clause-whole c =
    let inside = c.self.inside in
    rw (← c.self.view_is) (led_whole inside.base (joined inside.journal.closed inside.journal.pending) inside.objects c.self.invariant)

pub returns-clause-within : goal.returns-clause-within
returns-clause-within c =
    let inside = c.self.inside in
    rw (← c.self.view_is) (led_within inside.base (joined inside.journal.closed inside.journal.pending) inside.objects c.self.invariant)

pub returns-clause-room : goal.returns-clause-room
returns-clause-room c = subst (λ b. b.objects.version ≤ full_at b.base.version) c.self.view_is c.self.invariant.room
