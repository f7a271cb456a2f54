use Rattle.std.proofs.Common.{◌++◌, ap, sym, subst}
use Rattle.adr_lines.specs.Grouped.{entries_under, HaveOwnTypes}
use Rattle.adr_lines.proofs.Groups.{no_types}
use Rattle.adr_model.proofs.Events.{one_write}
use Rattle.adr_desk.specs.Bulk.{chosen, in_turn}
use Rattle.adr_desk.proofs.Gathered.{all_in_turn, apart_in_turn, entries_in_turn, next_event, same_chosen, windows_in_turn}
use Rattle.adr_desk.proofs.bulk.gathering.gather.Goals as goal

pub rest-init : goal.rest-init
rest-init c = record {
  entries = λ k. ap (λ gs. entries_under gs k ++ entries_in_turn c.args.tie c.args.book.now.objects.events c.args.numbers.now k) c.new-types.ensures.items;
  types = subst HaveOwnTypes (sym c.new-types.ensures.items) no_types;
}

pub rest-preserved : goal.rest-preserved
rest-preserved c =
    let events = c.args.book.now.objects.events in
    record {
      entries = λ k.
          next_event c.args.tie events c.rest.rest.now c.in-Some.more.now c.in-Some.number.now k (entries_under c.rest.types.items k) (entries_under c.add_event.new.types.items k)
          (entries_in_turn c.args.tie events c.args.numbers.now k) c.in-Some.ensures.cases.0 (c.in_ok-add_event.ensures.entries k) (c.rest.invariant.entries k);
      types = c.in_ok-add_event.ensures.types;
    }

pub returns-clause-fresh : goal.returns-clause-fresh
returns-clause-fresh c =
    let events = c.args.book.now.objects.events in
    let numbers = c.args.numbers.now in
    c.filling_laws.ensures.apart c.args.tie (in_turn events numbers) c.rest.types.items (apart_in_turn events numbers c.requires.order)
    (λ k. all_in_turn c.args.tie events c.rest.rest.now k (entries_under c.rest.types.items k) (entries_in_turn c.args.tie events numbers k) c.in_default.ensures.cases (c.rest.invariant.entries k))

pub returns-clause-indexed : goal.returns-clause-indexed
returns-clause-indexed c indexes filled =
    let events = c.args.book.now.objects.events in
    let numbers = c.args.numbers.now in
    c.filling_laws.ensures.fills c.args.tie (chosen events numbers) (in_turn events numbers) indexes c.rest.types.items
    (same_chosen events (one_write events c.book_laws.ensures.whole.sound.writes) numbers)
    (λ k. all_in_turn c.args.tie events c.rest.rest.now k (entries_under c.rest.types.items k) (entries_in_turn c.args.tie events numbers k) c.in_default.ensures.cases (c.rest.invariant.entries k))
    filled

pub returns-clause-windows : goal.returns-clause-windows
returns-clause-windows c =
    let events = c.args.book.now.objects.events in
    let numbers = c.args.numbers.now in
    windows_in_turn events (one_write events c.book_laws.ensures.whole.sound.writes) numbers c.args.tie c.rest.types.items
    (λ k. all_in_turn c.args.tie events c.rest.rest.now k (entries_under c.rest.types.items k) (entries_in_turn c.args.tie events numbers k) c.in_default.ensures.cases (c.rest.invariant.entries k))
