use Rattle.std.proofs.Common.{◌++◌, sym, subst}
use Rattle.adr_lines.specs.Grouped.{HaveOwnTypes}
use Rattle.adr_lines.proofs.Groups.{no_types}
use Rattle.adr_group.specs.Jobs.{AreAlike, AreGathered}
use Rattle.adr_group.proofs.Jobs.{both_alike}
use Rattle.adr_group.proofs.job.shared_windows.Goals as goal

pub gather_all-requires : goal.gather_all-requires
gather_all-requires c = record { own = subst HaveOwnTypes (sym c.new-types.ensures.items) no_types }

pub returns-clause-gathered : goal.returns-clause-gathered
returns-clause-gathered c =
    let windows = c.args.windows.now in
    let more = c.args.more.now in
    let types = c.gather_all-2.new.types.items in
    let alike = both_alike c.gather_all.new.types.items windows types more
    (subst (λ l. AreAlike c.gather_all.new.types.items (l ++ windows)) c.new-types.ensures.items c.in_ok-gather_all.ensures.alike)
    c.in_ok-gather_all-2.ensures.alike in
    subst (λ l. AreGathered l (windows ++ more)) (sym c.in_ok-shared.ensures.same)
    (record { own = c.in_ok-gather_all-2.ensures.own; under = alike.under; covers = alike.covers; cost = alike.cost })
