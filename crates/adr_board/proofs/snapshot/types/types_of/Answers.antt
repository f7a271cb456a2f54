use Rattle.std.proofs.Common.{◌++◌, ap, ◌∙◌}
use Rattle.std.specs.List.{flat_map}
use Rattle.adr_board.specs.Types.{private_if}
use Rattle.adr_board.proofs.snapshot.types.types_of.Goals as goal

pub returns-clause-ok : goal.returns-clause-ok
returns-clause-ok c test is =
    c.in_ok-add_private_types.ensures.ok test is
    ∙ ap (λ ks. ks ++ flat_map (λ k. private_if test k.0) c.args.group.now.lines) (c.in_ok-types.ensures.ok test is)
