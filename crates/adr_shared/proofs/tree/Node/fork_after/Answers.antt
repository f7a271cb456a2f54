use Rattle.std.proofs.Common.{◌+◌, max, ◌∷◌, ◌++◌, subst, sym}
use Rattle.adr_refusal.specs.Copy.{IsCopyOf}
use Rattle.adr_shared.specs.Sides.{DifferByAtMost}
use Rattle.adr_shared.proofs.tree.Node.fork_after.Goals as goal

pub fork-requires : goal.fork-requires
fork-requires g c = subst (λ side. DifferByAtMost 1 side.1 c.args.right.1) (sym c.in_ok-copy.ensures) c.requires

pub returns : goal.returns
returns g c =
    subst (λ side. IsCopyOf c.fork.result (side.0 ++ c.args.entry ∷ c.args.right.0, max side.1 c.args.right.1 + 1)) c.in_ok-copy.ensures
    c.fork.ensures
