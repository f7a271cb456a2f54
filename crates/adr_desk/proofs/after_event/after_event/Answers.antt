use Rattle.adr_desk.proofs.Edited.{event_exchange, one_id}
use Rattle.adr_desk.proofs.after_event.after_event.Goals as goal

pub exchanged-requires-clause-change : goal.exchanged-requires-clause-change
exchanged-requires-clause-change g c =
    let accepted = c.args.accepted.now in
    let old = accepted.old.now.objects in
    let new = accepted.new.now.objects in
    let edit = accepted.edit.now in
    let made = c.requires.accepted.made in
    let before = c.book_laws.ensures in
    let after = c.book_laws-2.ensures in
    let exchange = event_exchange old new edit before.whole.sound c.requires.event made in
    record {
      whole = before.whole;
      whole_after = after.whole;
      made = made;
      exchange = exchange;
      one_id = one_id old new edit before.whole.sound after.whole.sound c.requires.event made;
      gone = c.in_ok-gone.ensures.side;
      come = c.in_ok-come.ensures.side;
    }
