use Rattle.adr_touches.proofs.Concerned.{edit_touches}
use Rattle.adr_touches.proofs.edited.concerned_by.Goals as goal

pub returns-clause-ok : goal.returns-clause-ok
returns-clause-ok c =
    edit_touches c.args.old.now.objects c.args.new.now.objects c.args.edit.now c.book_laws.ensures.whole c.requires _ _ _ _
    c.in_ok-concern.ensures.concern c.rows_of.ensures c.in_ok-resources.ensures.ok c.in_ok-events.ensures.ok
