use Rattle.std.proofs.Common.{ap, sym, ◌∙◌}
use Rattle.std.specs.Option.{option_copied}
use Rattle.adr_model.specs.Book.{event_by}
use Rattle.adr_desk.proofs.Joining.{found_applies}
use Rattle.adr_desk.proofs.events.places_by.Goals as goal

pub returns-in_ok-places-in-Some-clause-places : goal.returns-in_ok-places-in-Some-clause-places
returns-in_ok-places-in-Some-clause-places c =
    let book = c.args.book.now.objects in
    record {
      apply =
          found_applies book (event_by book c.args.id.now) c.in-Some.event.now c.in_ok-places-in-Some.places.items
          (sym (ap option_copied c.in-Some.is) ∙ c.event.ensures)
          c.in_ok-places-in-Some.ensures.apply;
      count = c.in_ok-places-in-Some.ensures.count;
      once = c.in_ok-places-in-Some.ensures.once;
    }
