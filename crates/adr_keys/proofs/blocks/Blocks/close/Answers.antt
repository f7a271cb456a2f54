use Rattle.std.proofs.Common.{◌≤◌, length, ap, sym, ◌∙◌, arith}
use Rattle.adr_keys.specs.Blocks.{is_set}
use Rattle.adr_keys.specs.Places.{before_closing}
use Rattle.adr_keys.proofs.Covered.{includes-read, any-all}
use Rattle.adr_keys.proofs.blocks.Blocks.close.Goals as goal

pub returns : goal.returns
returns c = λ p.
    let old = c.args.self.now in
    let now = c.loop-index.self-inside.blocks.items in
    let past : length old ≤ c.loop-index.index = omega (arith, c.len-index-end.ensures, c.loop-index-test.false, ap length c.self.view_is) in
    includes-read now p ∙ any-all (is_set p) (is_set (before_closing c.args.place p)) old now c.loop-index.index c.loop-index.invariant.len past (c.loop-index.invariant.places p)
    ∙ sym (includes-read old (before_closing c.args.place p))
