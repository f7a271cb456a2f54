use Rattle.std.proofs.Common.{◌≡◌, ◌∙◌, ap, sym, subst}
use Rattle.std.specs.Arc.{arc_value}
use Rattle.adr_model.specs.Edits.{after_from}
use Rattle.adr_book.specs.Ledger.{Ledger, journal_of}
use Rattle.adr_board.specs.Publications.{sealed}
use Rattle.adr_board.specs.Published.{PublishedBook, last_batch}
use Rattle.adr_board.proofs.Following.{leads_on, same_book}
use Rattle.adr_board.proofs.publisher.Publisher.prepare.Goals as goal

pub of-snapshot-requires-clause-sealed : goal.of-snapshot-requires-clause-sealed
of-snapshot-requires-clause-sealed c = cc (c.in_ok-copy.ensures, c.in_ok-sealed.ensures.pending)

pub returns-in-Ok-clause-leads : goal.returns-in-Ok-clause-leads
returns-in-Ok-clause-leads c =
    let book = c.self.inside.desk.book in
    let before = (arc_value c.self.inside.last).book.objects in
    let made = c.in_ok-sealed.ensures in
    let is : c.in-Ok.snapshot.value.book ≡ sealed book = ap (λ (s : PublishedBook). s.book) c.in-Ok.ensures.ok ∙ (cc (c.in_ok-copy.ensures) ∙ same_book c.in_ok-sealed.sealed.book (sealed book) made.base made.objects made.closed made.pending) in
    let leads : after_from book.base (journal_of book) ≡ book.objects = subst (λ (b : Ledger). after_from b.base (journal_of b) ≡ b.objects) c.book.ensures c.journal-leads.ensures.leads in
    rw (← c.self.view_is) (subst (λ (b : Ledger). b.objects ≡ after_from before (last_batch b.closed)) (sym is) (leads_on book before leads c.self.invariant.leads))
