use Rattle.std.proofs.lemmas.Result.{on_ok_weaker}
use Rattle.adr_board.proofs.snapshot.types.add_private.Goals as goal

pub returns-clause-ok : goal.returns-clause-ok
returns-clause-ok c =
    on_ok_weaker c.add_type.result
    (λ added test is. rw (c.in-Private.is, c.as_str-name.ensures.private) (rw c.in_ok-copy.ensures at added test is))
    c.add_type.ensures.ok
