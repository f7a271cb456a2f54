use Rattle.std.proofs.Common.{◌≡◌, ℤ, ◌++◌, if◌then◌else◌, ap, sym, ◌∙◌, arith}
use Rattle.adr_value.specs.declared.payload.PayloadType.{PayloadType}
use Rattle.adr_lines.specs.Grouped.{any_covers_at, entries_under}
use Rattle.adr_lines.specs.Right.{among, winner_under}
use Rattle.adr_group.specs.Group.{shown_in, Lines}
use Rattle.adr_group.proofs.Turns.{both_repaired, most_both, wins}
use Rattle.adr_group.proofs.Rights.{repaired_moves, repaired_right}
use Rattle.adr_group.proofs.group.Group.repaired.Goals as goal

pub returns-in_err-lines-clause-compared : goal.returns-in_err-lines-clause-compared
returns-in_err-lines-clause-compared c =
    let both = most_both c.args.windows.now c.args.more.now c.args.writes c.args.indexes.now in
    omega (arith, both, c.repaired.ensures.compared)

pub returns-in_err-lines-2-clause-compared : goal.returns-in_err-lines-2-clause-compared
returns-in_err-lines-2-clause-compared c =
    let both = most_both c.args.windows.now c.args.more.now c.args.writes c.args.indexes.now in
    omega (arith, both, c.repaired.ensures.compared, c.repaired-2.ensures.compared)

pub returns-in_err-writes-clause-compared : goal.returns-in_err-writes-clause-compared
returns-in_err-writes-clause-compared c =
    let both = most_both c.args.windows.now c.args.more.now c.args.writes c.args.indexes.now in
    omega (arith, both, c.repaired.ensures.compared, c.repaired-2.ensures.compared)

pub returns-clause-compared : goal.returns-clause-compared
returns-clause-compared c =
    let both = most_both c.args.windows.now c.args.more.now c.args.writes c.args.indexes.now in
    omega (arith, both, c.repaired.ensures.compared, c.repaired-2.ensures.compared)

abbrev Shows : goal.After-drop-lines-2 → Type 0
Shows c =
    (k : PayloadType) (t : ℤ)
    → shown_in c.in_ok-lines-2.lines k t
    ≡ (if any_covers_at (entries_under (c.args.windows.now ++ c.args.more.now) k) t then wins c.args.indexes.now c.args.writes k t else shown_in c.args.self.now.lines k t)

both : (c : goal.After-drop-lines-2) → Shows c
both c k t =
    let windows = c.args.windows.now in
    let win = wins c.args.indexes.now c.args.writes k t in
    both_repaired windows c.args.more.now k t win (shown_in c.args.self.now.lines k t) (shown_in c.in_ok-lines.lines k t) (shown_in c.in_ok-lines-2.lines k t)
    (c.in_ok-lines.ensures.shown k t ∙ ap (λ (g : Lines). if any_covers_at (entries_under windows k) t then win else shown_in g.lines k t) c.self.view_is)
    (c.in_ok-lines-2.ensures.shown k t)

pub returns-clause-right : goal.returns-clause-right
returns-clause-right c tie events indexed within before k t =
    repaired_right c.args.self.now.writes c.args.writes (entries_under (c.args.windows.now ++ c.args.more.now)) c.args.indexes.now c.args.self.now.lines c.in_ok-lines-2.lines tie (both c)
    events indexed within before k t
    ∙ ap (λ ns. winner_under tie (among events ns k) t) (sym c.in_ok-writes.ensures)

pub returns-clause-moves : goal.returns-clause-moves
returns-clause-moves c tie old new indexed agree before k t =
    repaired_moves c.args.self.now.writes c.args.writes (entries_under (c.args.windows.now ++ c.args.more.now)) c.args.indexes.now c.args.self.now.lines c.in_ok-lines-2.lines tie (both c)
    old new indexed agree before k t
    ∙ ap (λ ns. winner_under tie (among new ns k) t) (sym c.in_ok-writes.ensures)
