use Rattle.std.proofs.Common.{◌≡◌, ℕ, ◌+◌, Option, Some, None, IfSome, refl, ◌∙◌}
use Rattle.std.specs.Option.{SomeIff}
use Rattle.adr_lines.specs.Indexes.{wanted_under}
use Rattle.adr_lines.proofs.counting.wanted.Goals as goal

if_some : (r : Option ℕ) (P : Type 0) (n m : ℕ) → n ≡ m → SomeIff r P n → IfSome r (λ count. count ≡ m)
if_some None P n m e h = tt
if_some (Some k) P n m e h = h.1 ∙ e

pub returns : goal.returns
returns c =
    if_some c.checked_add.result _ (c.in_ok-leaving.leaving + c.in_ok-entering.entering) (wanted_under c.args.gone.now c.args.come.now c.args.payload_type.now)
    (rw (c.in_ok-leaving.ensures, c.in_ok-entering.ensures) refl) c.checked_add.ensures
