use Rattle.std.proofs.Common.{◌≡◌, ◌∙◌, IsOk, Ok, ap, subst, sym}
use Rattle.adr_model.specs.Edits.{full_at, step, step_to}
use Rattle.adr_book.specs.Ledger.{Leads, joined}
use Rattle.adr_book.proofs.Bounds.{accepted_too, same_step}
use Rattle.adr_book.proofs.Joined.{led_whole, led_by_one_more}
use Rattle.adr_book.proofs.Refused.{on_err}
use Rattle.adr_book.proofs.book.Book.commit.Goals as goal

pub make-requires-clause-accepted : goal.make-requires-clause-accepted
make-requires-clause-accepted c =
    subst (λ x. IsOk (step c.self.inside.objects x)) (sym (c.in_ok-copy.ensures))
    (accepted_too c.self.inside.base.version c.self.inside.objects c.args.edit
    (subst (λ b. IsOk (step_to (full_at b.base.version) b.objects c.args.edit)) (sym c.self.view_is) c.requires))

pub make-requires-clause-whole : goal.make-requires-clause-whole
make-requires-clause-whole c = led_whole c.self.inside.base (joined c.self.inside.journal.closed c.self.inside.journal.pending) c.self.inside.objects c.self.invariant

pub invariant_of-self : goal.invariant_of-self
invariant_of-self c =
    subst (λ objects. Leads c.self.inside.base (joined c.self.inside.journal.closed c.self.inside.journal.pending) objects) (sym (c.in_err-make.ensures.err)) c.self.invariant

pub returns-in_err-make-clause-unchanged : goal.returns-in_err-make-clause-unchanged
returns-in_err-make-clause-unchanged c = rw (c.in_err-make.ensures.err) (on_err _ c.self.view_is)

pub invariant_of-self-2 : goal.invariant_of-self-2
invariant_of-self-2 c =
    rw (c.in_ok-journal.ensures.closed, c.in_ok-journal.ensures.pending)
    (led_by_one_more c.self.inside.base c.self.inside.journal.closed c.self.inside.journal.pending c.args.edit c.self.inside.objects c.make.new.self c.self.invariant
    (same_step c.self.inside.base.version c.self.inside.objects c.args.edit
    (subst (λ b. IsOk (step_to (full_at b.base.version) b.objects c.args.edit)) (sym c.self.view_is) c.requires)
    c.make.new.self
    (ap (step c.self.inside.objects) (sym (c.in_ok-copy.ensures)) ∙ c.in_ok-make.ensures.ok)))

pub returns-clause-objects : goal.returns-clause-objects
returns-clause-objects c =
    subst (λ b. step_to (full_at b.base.version) b.objects c.args.edit ≡ Ok c.make.new.self) c.self.view_is
    (same_step c.self.inside.base.version c.self.inside.objects c.args.edit
    (subst (λ b. IsOk (step_to (full_at b.base.version) b.objects c.args.edit)) (sym c.self.view_is) c.requires)
    c.make.new.self
    (ap (step c.self.inside.objects) (sym (c.in_ok-copy.ensures)) ∙ c.in_ok-make.ensures.ok))
