use Rattle.std.proofs.Common.{◌≡◌, ◌∙◌, ap, subst, sym}
use Rattle.adr_book.specs.Ledger.{Leads, sealed_of}
use Rattle.adr_book.proofs.Joined.{led_from}
use Rattle.adr_book.proofs.book.Book.condense.Goals as goal

pub invariant_of-self : goal.invariant_of-self
invariant_of-self c =
    let copied = c.in_ok-base.ensures ∙ c.in_ok-copy.ensures ∙ ap (λ b. b.objects) c.at.view_is in
    let sealed = subst (λ b. c.args.at.now.objects ≡ sealed_of b) (sym c.self.view_is) c.requires in
    let pending = sym c.condense.ensures.pending in
    rw (c.condense.ensures.closed)
    (subst (λ edits. Leads c.in_ok-base.base edits c.self.inside.objects) pending
    (led_from c.self.inside.base c.self.inside.journal.closed c.self.inside.journal.pending c.self.inside.objects c.in_ok-base.base c.self.invariant (copied ∙ sealed)))

pub returns-clause-base : goal.returns-clause-base
returns-clause-base c = c.in_ok-base.ensures ∙ c.in_ok-copy.ensures ∙ ap (λ b. b.objects) c.at.view_is

pub returns-clause-version : goal.returns-clause-version
returns-clause-version c =
    let copied = c.in_ok-base.ensures ∙ c.in_ok-copy.ensures ∙ ap (λ b. b.objects) c.at.view_is in
    c.version.ensures.value ∙ ap (λ b. b.version) copied
