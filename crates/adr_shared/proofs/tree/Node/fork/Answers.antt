use Rattle.std.proofs.Common.{◌+◌, max, ◌∷◌, ◌++◌, subst}
use Rattle.adr_refusal.specs.Copy.{IsCopyOf}
use Rattle.adr_shared.proofs.tree.Node.fork.Goals as goal

pub fork-requires : goal.fork-requires
fork-requires g c = c.requires

pub returns : goal.returns
returns g c =
    subst (λ entry. IsCopyOf c.fork-2.result (c.args.left.0 ++ entry ∷ c.args.right.0, max c.args.left.1 c.args.right.1 + 1)) c.in_ok-copy.ensures
    c.fork-2.ensures
