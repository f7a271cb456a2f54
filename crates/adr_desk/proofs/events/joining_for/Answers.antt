use Rattle.adr_desk.proofs.Joining.{made_applies}
use Rattle.adr_desk.proofs.events.joining_for.Goals as goal

pub returns-in_ok-places-in-Event-clause-places : goal.returns-in_ok-places-in-Event-clause-places
returns-in_ok-places-in-Event-clause-places c = record {
  apply = made_applies c.args.book.now.objects c.args.object.now c.in-Event.event c.get.result.now c.in_ok-places-in-Event.places.items c.in-Event.is c.get.ensures c.in_ok-places-in-Event.ensures.apply;
  count = c.in_ok-places-in-Event.ensures.count;
  once = c.in_ok-places-in-Event.ensures.once;
}
