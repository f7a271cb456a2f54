use Rattle.std.proofs.Common.{◌≡◌, List, [], ◌∷◌, length, eqb-true, ap, sym, ◌∙◌, arith, refl}
use Rattle.adr_keys.specs.Blocks.{includes}
use Rattle.adr_keys.specs.declared.blocks.Block.{Block}
use Rattle.adr_keys.proofs.Covered.{includes-nil}
use Rattle.adr_keys.proofs.blocks.Blocks.is_empty.Goals as goal

none : (bs : List Block) → length bs ≡ 0 → bs ≡ []
none [] h = refl
none (b ∷ bs) h = absurd (omega arith)

pub returns : goal.returns
returns c = λ h p. ap (λ bs. includes bs p) (sym c.self.view_is ∙ none c.self.inside.blocks.items (omega (arith, c.len.ensures, eqb-true c.len.result 0 h))) ∙ includes-nil p
