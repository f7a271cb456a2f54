use Rattle.adr_touches.proofs.Added.{no_event}
use Rattle.adr_touches.proofs.ids.is_new_event.Goals as goal

pub returns : goal.returns
returns c = no_event c.args.book.now.objects c.args.id.now c.event_place.result c.is_none.result c.is_none.ensures c.event_place.ensures.found
