use Rattle.adr_model.proofs.Events.{one_write}
use Rattle.adr_regroup.proofs.PartyWindows.{differ, differ_least}
use Rattle.adr_regroup.proofs.spot.difference.Goals as goal

pub returns-clause-windows : goal.returns-clause-windows
returns-clause-windows c =
    let events = c.args.book.now.objects.events in
    differ events (one_write events c.book_laws.ensures.whole.sound.writes) c.args.tie c.args.old.now c.args.new.now c.numbers.result.now c.numbers-2.result.now
    c.new-windows.result.items c.add_events.new.windows.items c.add_events-2.new.windows.items
    c.new-windows.ensures.items c.numbers.ensures.numbers c.numbers-2.ensures.numbers c.in_ok-add_events.ensures.entries c.in_ok-add_events-2.ensures.entries

pub returns-clause-least : goal.returns-clause-least
returns-clause-least c indexes writes cost bound =
    differ_least c.args.book.now.objects.events indexes writes cost c.args.old.now c.args.new.now c.numbers.result.now c.numbers-2.result.now
    c.new-windows.result.items c.add_events.new.windows.items c.add_events-2.new.windows.items
    c.new-windows.ensures.items c.numbers.ensures.numbers c.numbers-2.ensures.numbers (c.in_ok-add_events.ensures.least indexes writes cost bound) (c.in_ok-add_events-2.ensures.least indexes writes cost bound)
