use Rattle.std.proofs.Common.{◌≡◌, ◌-◌, drop, ap, sym, ◌∙◌, arith}
use Rattle.std.specs.List.{list_any}
use Rattle.adr_keys.specs.Blocks.{covers}
use Rattle.adr_keys.proofs.Covered.{has_block-read}
use Rattle.adr_keys.proofs.blocks.Blocks.find.Goals as goal

pub returns : goal.returns
returns c =
    let left : 0 ≡ c.len-count.result - c.loop-step.step = omega (arith, c.loop-step-test.false) in
    has_block-read c.args.self.now c.args.place ∙ ap (list_any (covers c.args.place)) (sym c.self.view_is)
    ∙ ap (λ n. list_any (covers c.args.place) (drop n c.self.inside.blocks.items)) left ∙ c.loop-step.invariant
