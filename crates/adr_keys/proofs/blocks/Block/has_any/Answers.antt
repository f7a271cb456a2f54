use Rattle.std.proofs.Common.{◌≡◌, ◌+◌, ◌-◌, ◌&&◌, ap, ◌∙◌, arith}
use Rattle.adr_keys.specs.Places.{bit}
use Rattle.adr_keys.proofs.Covered.{covers-to, empty-block}
use Rattle.adr_keys.proofs.blocks.Block.has_any.Goals as goal

pub returns-clause-some : goal.returns-clause-some
returns-clause-some c = λ h.
    let b = c.args.self in
    let t = c.has_any_bit.ensures.some h in
    let back : b.start + t.0 - b.start ≡ t.0 = omega arith in
    (b.start + t.0, ap (λ u. u && bit b.bits (b.start + t.0 - b.start)) (covers-to b (b.start + t.0) (omega arith) (omega (arith, t.1))) ∙ ap (bit b.bits) back ∙ t.2)

pub returns-clause-none : goal.returns-clause-none
returns-clause-none c = λ h p. empty-block c.args.self p (c.has_any_bit.ensures.none h)
