use Rattle.std.proofs.Common.{sym, subst}
use Rattle.adr_schedule.specs.Draft.{AreDraftsOf, AreMadeOf}
use Rattle.adr_schedule.proofs.Drafts.{all_become}
use Rattle.adr_schedule.proofs.schedule.Schedule.made_for.Goals as goal

pub made_by-requires-clause-drafts : goal.made_by-requires-clause-drafts
made_by-requires-clause-drafts g c = subst (AreDraftsOf c.args.change.now) (sym c.as_slice.ensures.value) c.in_ok-drafted.ensures.own

pub returns-clause-made : goal.returns-clause-made
returns-clause-made g c =
    let indexes = c.args.indexes.now in
    let drafts = c.in_ok-drafted.drafted.list.items in
    let made = c.in_ok-groups.groups in
    rw (← c.self.view_is, ← c.get.ensures)
    (all_become c.args.change.now indexes c.requires.two c.args.places.now c.get.result.now c.self.inside.groups drafts made
    c.in_ok-drafted.ensures.drafts c.in_ok-drafted.ensures.seen
    (subst (λ ds. AreMadeOf indexes ds made) c.as_slice.ensures.value c.in_ok-groups.ensures.made))
