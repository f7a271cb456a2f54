use Rattle.std.proofs.Common.{◌-◌, ◌%◌, refl, ap, ◌∙◌, arith}
use Rattle.std.proofs.lemmas.Bool.{or_left, or_right}
use Rattle.adr_keys.specs.Blocks.{covers, includes, has_block}
use Rattle.adr_keys.specs.declared.blocks.Block.{Block}
use Rattle.adr_keys.proofs.Covered.{includes-more, has_block-more, covers-to}
use Rattle.adr_keys.proofs.blocks.Blocks.add_block.Goals as goal

pub returns-clause-same : goal.returns-clause-same
returns-clause-same c = λ p.
    ap (λ bs. includes bs p) c.in_ok-push.ensures.items ∙ includes-more c.self.inside.blocks.items (record { start = c.args.place - c.args.place % 64; bits = 0 }) p refl ∙ ap (λ bs. includes bs p) c.self.view_is

pub returns-clause-ok : goal.returns-clause-ok
returns-clause-ok c =
    let b : Block = record { start = c.args.place - c.args.place % 64; bits = 0 } in
    ap (λ bs. has_block bs c.args.place) c.in_ok-push.ensures.items ∙ has_block-more c.self.inside.blocks.items b c.args.place
    ∙ or_right (has_block c.self.inside.blocks.items c.args.place) (covers c.args.place b) (covers-to b c.args.place (omega arith) (omega arith))

pub returns-clause-kept : goal.returns-clause-kept
returns-clause-kept c = λ p h.
    let b : Block = record { start = c.args.place - c.args.place % 64; bits = 0 } in
    ap (λ bs. has_block bs p) c.in_ok-push.ensures.items ∙ has_block-more c.self.inside.blocks.items b p
    ∙ or_left (has_block c.self.inside.blocks.items p) (covers p b) (ap (λ bs. has_block bs p) c.self.view_is ∙ h)
