use Rattle.std.proofs.Common.{◌∙◌, ap, sym, subst}
use Rattle.adr_board.specs.Publishers.{opening_of, FollowsLast}
use Rattle.adr_board.proofs.Publishers.{opens}
use Rattle.adr_board.proofs.publisher.Publisher.over.Goals as goal

pub invariant_of-result : goal.invariant_of-result
invariant_of-result c =
    subst (FollowsLast c.args.desk.tie c.args.desk.book) (sym (c.in_ok-last.ensures.ok ∙ ap opening_of c.tie.ensures))
    (opens c.args.desk.tie c.args.desk.book c.requires.base c.requires.closed c.names_of_first_batch.ensures)
