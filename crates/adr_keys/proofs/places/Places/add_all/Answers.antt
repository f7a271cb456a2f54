use Rattle.std.proofs.Common.{◌||◌, ap, sym, ◌∙◌}
use Rattle.std.specs.List.{list_any}
use Rattle.std.proofs.lemmas.List.{take_all}
use Rattle.adr_keys.specs.Blocks.{is_set}
use Rattle.adr_keys.specs.Places.{has}
use Rattle.adr_keys.proofs.Covered.{includes-read}
use Rattle.adr_keys.proofs.places.Places.add_all.Goals as goal

pub returns-clause-places : goal.returns-clause-places
returns-clause-places c = λ p h.
    c.loop-block.invariant.places p h
    ∙ ap (λ bs. has c.args.self.now p || list_any (is_set p) bs) (take_all c.loop-block.block-index _ c.loop-block-test.false ∙ c.as_slice-block-items.ensures)
    ∙ ap (λ v. has c.args.self.now p || v) (sym (includes-read c.args.blocks.now p))
