use Rattle.std.proofs.Common.{ap, arith}
use Rattle.adr_group.specs.Repair.{most_repaired}
use Rattle.adr_schedule.proofs.Drafts.{made_right}
use Rattle.adr_schedule.proofs.place.remade.Goals as goal

pub returns-in_err-made-clause-least : goal.returns-in_err-made-clause-least
returns-in_err-made-clause-least g c =
    let indexes = c.args.indexes.now in
    let draft = c.in_ok-draft.draft in
    let same = c.in_ok-draft.ensures.windows.cost draft.writes indexes in
    let own = ap (λ ws. most_repaired c.args.windows.now ws indexes) c.in_ok-draft.ensures.writes in
    omega (arith, same, own, c.one_made_by.ensures.compared)

pub returns-clause-right : goal.returns-clause-right
returns-clause-right g c =
    let made = c.in_ok-draft.ensures in
    made_right c.args.indexes.now c.args.group.now c.in_ok-made.made c.in_ok-draft.draft c.args.writes.now c.args.windows.now made.group made.writes made.windows c.in_ok-made.ensures.made

pub returns-clause-least : goal.returns-clause-least
returns-clause-least g c =
    let indexes = c.args.indexes.now in
    let draft = c.in_ok-draft.draft in
    let same = c.in_ok-draft.ensures.windows.cost draft.writes indexes in
    let own = ap (λ ws. most_repaired c.args.windows.now ws indexes) c.in_ok-draft.ensures.writes in
    omega (arith, same, own, c.one_made_by.ensures.compared)
