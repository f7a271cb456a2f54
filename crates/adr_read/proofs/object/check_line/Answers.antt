use Rattle.std.proofs.Common.{refl}
use Rattle.adr_refusal.specs.declared.refusal.Refusal.TheVariants.{WrongKind, IdMismatch}
use Rattle.adr_read.specs.Sets.{optional}
use Rattle.adr_read.specs.Values.{equal_faults}
use Rattle.adr_read.proofs.object.check_line.Goals as goal

pub returns : goal.returns
returns c k i hk hi =
    let both = c.in_ok-both.ensures (optional (equal_faults c.args.kind.now WrongKind) k) (optional (equal_faults c.args.id.now IdMismatch) i) tt tt (c.check_equal-kind.ensures k hk) (rw c.text.ensures.value at (c.check_equal-id.ensures i hi)) in
    (both.0, refl)
