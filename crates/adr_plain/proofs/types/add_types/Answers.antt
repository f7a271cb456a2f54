use Rattle.std.proofs.lemmas.Result.{on_ok_weaker}
use Rattle.adr_plain.proofs.Governed.{types_added}
use Rattle.adr_plain.proofs.types.add_types.Goals as goal

pub returns-clause-ok : goal.returns-clause-ok
returns-clause-ok c =
    on_ok_weaker c.add_private_types.result
    (types_added c.args.tie c.args.book.now.objects c.args.id.now c.args.names.now _ _ _ c.requires c.in_ok-add_table_types.ensures.ok)
    c.add_private_types.ensures.ok
