use Rattle.std.proofs.Common.{◌+◌, max, ◌∷◌, ◌++◌, subst, sym}
use Rattle.adr_refusal.specs.Copy.{IsCopyOf}
use Rattle.adr_shared.specs.Sides.{DifferByAtMost}
use Rattle.adr_shared.proofs.tree.Node.fork_before.Goals as goal

pub fork-requires : goal.fork-requires
fork-requires g c = subst (λ side. DifferByAtMost 1 c.args.left.1 side.1) (sym c.in_ok-copy.ensures) c.requires

pub returns : goal.returns
returns g c =
    subst (λ side. IsCopyOf c.fork-2.result (c.args.left.0 ++ c.args.entry ∷ side.0, max c.args.left.1 side.1 + 1)) c.in_ok-copy.ensures
    c.fork-2.ensures
