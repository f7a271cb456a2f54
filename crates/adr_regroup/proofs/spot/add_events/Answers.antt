use Rattle.std.proofs.Common.{◌+◌, ◌++◌, map, arith}
use Rattle.adr_model.specs.Rank.{ranked}
use Rattle.adr_lines.specs.Grouped.{entries_under}
use Rattle.adr_group.specs.Repair.{most_repaired}
use Rattle.adr_regroup.specs.Compared.{cost_but}
use Rattle.adr_regroup.specs.Party.{entries_but}
use Rattle.adr_regroup.proofs.PartyWindows.{turn_entries, turn_least}
use Rattle.adr_regroup.proofs.spot.add_events.Goals as goal

pub rest-preserved : goal.rest-preserved
rest-preserved c =
    let events = c.args.book.now.objects.events in
    let others = c.args.others.now in
    let start = c.args.windows.now.items in
    let now = c.rest.windows.items in
    let after = c.add_event.new.windows.items in
    let n = c.in-Some.number.now in
    let rest = c.rest.rest.now in
    let more = c.in-Some.more.now in
    let first = c.in-Some.ensures.cases.0 in
    record {
      entries = λ k. turn_entries c.args.tie events others now after n rest more first k
          (entries_under start k ++ map (ranked c.args.tie) (entries_but events c.args.numbers.now others k))
          (c.in_ok-add_event.ensures.entries k) (c.rest.invariant.entries k);
      least = λ indexes writes cost bound. turn_least c.args.tie events others now after n rest more first indexes writes cost
          (most_repaired start writes indexes + cost_but cost events c.args.numbers.now others)
          (c.in_ok-add_event.ensures.least indexes writes cost bound) (c.rest.invariant.least indexes writes cost bound);
    }

pub returns-clause-least : goal.returns-clause-least
returns-clause-least c indexes writes cost bound =
    let least = c.rest.invariant.least indexes writes cost bound in
    omega (arith, least)
