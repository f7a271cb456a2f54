use Rattle.std.proofs.Common.{arith, true, false, sym, ◌≡◌, ◌∙◌, refl, ap}
use Rattle.std.specs.Prelude.{bytes_eq}
use Rattle.std.proofs.lemmas.Result.{err_from_is_err_and}
use Rattle.adr_refusal.proofs.Judged.{number_of_le}
use Rattle.adr_refusal.specs.Faults.{least}
use Rattle.adr_read.specs.Sets.{unless}
use Rattle.adr_read.proofs.Parts.{anywhere, absent_equal, present_equal, refused_equal}
use Rattle.adr_read.proofs.object.check_equal.Goals as goal

pub returns-in_err-text : goal.returns-in_err-text
returns-in_err-text c o holds =
    let out = err_from_is_err_and c.from_residual.result c.from_residual.ensures.1 in
    rw (out.1, out.2) (refused_equal c.args.wanted.now c.args.refusal c.in_err-text.field-0.0 o (c.in_err-text.ensures anywhere o holds))

pub returns-in_default : goal.returns-in_default
returns-in_default c o holds =
    let read = rw c.in_default.is at (c.in_ok-text.ensures anywhere o holds) in
    (absent_equal c.args.wanted.now c.args.refusal o read.1, refl)

pub returns-then-eq : goal.returns-then-eq
returns-then-eq c o holds =
    let read = rw c.in-Some.is at (c.in_ok-text.ensures anywhere o holds) in
    let same : bytes_eq c.in-Some.text c.args.wanted.now ≡ true = ap (λ t. bytes_eq t c.args.wanted.now) (sym c.as_str.ensures) ∙ sym c.if-eq.ensures in
    (present_equal c.args.wanted.now c.args.refusal o c.in-Some.text read.0 read.1 ∙ ap (λ b. least (unless b c.args.refusal)) same, refl)

pub returns : goal.returns
returns c o holds =
    let read = rw c.in-Some.is at (c.in_ok-text.ensures anywhere o holds) in
    let other : bytes_eq c.in-Some.text c.args.wanted.now ≡ false = ap (λ t. bytes_eq t c.args.wanted.now) (sym c.as_str.ensures) ∙ sym c.if-eq.ensures in
    λ _. sym (present_equal c.args.wanted.now c.args.refusal o c.in-Some.text read.0 read.1 ∙ ap (λ b. least (unless b c.args.refusal)) other ∙ omega (arith, number_of_le c.args.refusal))
