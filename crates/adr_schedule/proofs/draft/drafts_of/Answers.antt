use Rattle.std.proofs.Common.{◌≡◌, ◌+◌, sum_by, ap, subst, ◌∙◌, arith}
use Rattle.std.proofs.lemmas.List.Sums.{sum_by-cons}
use Rattle.adr_schedule.specs.Moves.{asked_at}
use Rattle.adr_schedule.specs.Shift.{most_shifted}
use Rattle.adr_schedule.specs.Tally.{IsTallied}
use Rattle.adr_schedule.proofs.Drafts.{next_seen, seen_at_end}
use Rattle.adr_schedule.proofs.Shifts.{none_left}
use Rattle.adr_schedule.proofs.draft.drafts_of.Goals as goal

pub rest-preserved : goal.rest-preserved
rest-preserved c =
    let place = c.in-Some.place.now in
    let more = c.in-Some.more.now in
    let new = c.in_ok-add_place in
    record {
      windows = new.ensures.windows;
      drafts = new.ensures.drafts;
      own = new.ensures.own c.rest.invariant.own;
      last = new.ensures.last;
      known = new.ensures.known;
      seen = λ p s among at. next_seen c.args.change.now c.args.groups.now c.rest.drafts.list.items c.add_place.new.drafts.list.items c.args.seats.now c.rest.rest.now more place
          c.in-Some.ensures.cases.0 new.ensures.grows new.ensures.seen p s at (c.rest.invariant.seen p s among at);
      tally = new.ensures.tally c.args.places.now more c.rest.invariant.slots
          (subst (λ l. IsTallied c.args.places.now l c.args.seats.now c.rest.drafts.tally) c.in-Some.ensures.cases.0 c.rest.invariant.tally);
      slots = new.ensures.slots c.rest.invariant.slots;
      least = λ indexes.
          (let asked = asked_at (most_shifted c.args.change.now indexes) c.args.seats.now c.args.groups.now in
          let parts : sum_by asked c.rest.rest.now ≡ asked place + sum_by asked more = ap (sum_by asked) c.in-Some.ensures.cases.0 ∙ sum_by-cons asked place more in
          let before = c.rest.invariant.least indexes in
          let one = new.ensures.least indexes in
          omega (arith, parts, before, one));
    }

pub returns-clause-seen : goal.returns-clause-seen
returns-clause-seen c place slot among at = seen_at_end c.rest.rest.now place (none_left c.rest.rest.now c.in_default.ensures.cases) (c.rest.invariant.seen place slot among at)
