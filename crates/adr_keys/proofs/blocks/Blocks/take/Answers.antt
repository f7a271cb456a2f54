use Rattle.std.proofs.Common.{◌≤◌, ◌&&◌, not, eqb, length, ap, sym, ◌∙◌, arith}
use Rattle.adr_keys.specs.Blocks.{covers, is_set}
use Rattle.adr_keys.proofs.Covered.{includes-read, has_block-read, any-all, any-and}
use Rattle.adr_keys.proofs.blocks.Blocks.take.Goals as goal

pub returns-clause-places : goal.returns-clause-places
returns-clause-places c = λ p.
    let old = c.args.self.now in
    let now = c.loop-index.self-inside.blocks.items in
    let past : length old ≤ c.loop-index.index = omega (arith, c.len-index-end.ensures, c.loop-index-test.false, ap length c.self.view_is) in
    includes-read now p ∙ any-all (is_set p) (λ b. not (eqb p c.args.place) && is_set p b) old now c.loop-index.index c.loop-index.invariant.len past (c.loop-index.invariant.places p)
    ∙ any-and (not (eqb p c.args.place)) (is_set p) old ∙ ap (λ v. not (eqb p c.args.place) && v) (sym (includes-read old p))

pub returns-clause-room : goal.returns-clause-room
returns-clause-room c = λ p.
    let old = c.args.self.now in
    let now = c.loop-index.self-inside.blocks.items in
    let past : length old ≤ c.loop-index.index = omega (arith, c.len-index-end.ensures, c.loop-index-test.false, ap length c.self.view_is) in
    has_block-read now p ∙ any-all (covers p) (covers p) old now c.loop-index.index c.loop-index.invariant.len past (c.loop-index.invariant.room p) ∙ sym (has_block-read old p)
