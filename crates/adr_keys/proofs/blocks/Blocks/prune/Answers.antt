use Rattle.std.proofs.Common.{rules, of_calls, ◌≡◌, Bool, true, false, not, eqb, eqb-true, refl, filter, ap, sym, ◌∙◌}
use Rattle.std.proofs.lemmas.Fn.{filter_same}
use Rattle.adr_keys.specs.Blocks.{includes, is_set}
use Rattle.adr_keys.specs.declared.blocks.Block.{Block}
use Rattle.adr_keys.proofs.Covered.{includes-read, any-filter, empty-block}
use Rattle.adr_keys.proofs.blocks.Blocks.prune.Goals as goal

has_none : (b : Block) → not (eqb b.bits 0) ≡ false → eqb b.bits 0 ≡ true
has_none b h = by (eqb b.bits 0) h
  where
    by : (v : Bool) → not v ≡ false → v ≡ true
    by true e = refl
    by false e = sym e

pub returns : goal.returns
returns c = λ p.
    let bs = c.self.inside.blocks.items in
    let left : c.retain.new.self.items ≡ filter (λ b. not (eqb b.bits 0)) bs = filter_same _ (λ b. not (eqb b.bits 0)) _ (λ x b f h. search (rules, of_calls)) bs c.retain.new.self.items c.retain.ensures.filtered in
    ap (λ xs. includes xs p) left ∙ includes-read (filter (λ b. not (eqb b.bits 0)) bs) p
    ∙ any-filter (is_set p) (λ b. not (eqb b.bits 0)) bs (λ b h. empty-block b p (eqb-true b.bits 0 (has_none b h)))
    ∙ sym (includes-read bs p) ∙ ap (λ xs. includes xs p) c.self.view_is
