use Rattle.std.proofs.Common.{◌≡◌, ◌||◌, Bool, true, false, ◌∷◌, [], take, get_or, refl, ap, sym, ◌∙◌}
use Rattle.std.proofs.lemmas.List.{take_more, take_all}
use Rattle.std.proofs.lemmas.List.Folds.{list_any-append}
use Rattle.std.specs.List.{list_any}
use Rattle.adr_keys.specs.Blocks.{includes, is_set}
use Rattle.adr_keys.proofs.Covered.{includes-read, any-at}
use Rattle.adr_keys.proofs.blocks.Blocks.has_any.Goals as goal

or_false : (a b : Bool) → a ≡ false → b ≡ false → (a || (b || false)) ≡ false
or_false true b h k = h
or_false false true h k = k
or_false false false h k = refl

pub returns-then-has_any-clause-some : goal.returns-then-has_any-clause-some
returns-then-has_any-clause-some c = λ _.
    let t = c.has_any.ensures.some c.if-has_any.true in (
      t.0,
      ap (λ bs. includes bs t.0) (sym c.self.view_is ∙ sym c.deref-block-items.ensures.value) ∙ includes-read c.deref-block-items.result.now t.0
          ∙ any-at (is_set t.0) c.deref-block-items.result.now c.loop-block.block-index _ c.loop-block-test.true t.1,
    )

pub loop-block-preserved : goal.loop-block-preserved
loop-block-preserved c = λ p.
    let bs = c.deref-block-items.result.now in
    let i = c.loop-block.block-index in
    ap (list_any (is_set p)) (take_more bs i _ c.loop-block-test.true) ∙ list_any-append (is_set p) (take i bs) (get_or bs i _ ∷ [])
    ∙ or_false (list_any (is_set p) (take i bs)) _ (c.loop-block.invariant p) (c.has_any.ensures.none c.if-has_any.false p)

pub returns-clause-none : goal.returns-clause-none
returns-clause-none c = λ _ p.
    let bs = c.deref-block-items.result.now in
    ap (λ xs. includes xs p) (sym c.self.view_is ∙ sym c.deref-block-items.ensures.value) ∙ includes-read bs p
    ∙ ap (list_any (is_set p)) (sym (take_all c.loop-block.block-index bs c.loop-block-test.false)) ∙ c.loop-block.invariant p
