use Rattle.std.proofs.Common.{◌≡◌, ◌≤◌, ◌∙◌, true, length, ap, subst}
use Rattle.std.specs.Prelude.{IfSome}
use Rattle.adr_lines.specs.Grouped.{entries_under}
use Rattle.adr_schedule.specs.Shift.{entries_in, kept_side, number_in}
use Rattle.adr_schedule.proofs.Laid.{all_ok, front_fits, job_exchanges, whole}
use Rattle.adr_schedule.proofs.made.exchange_job.Goals as goal

pub returns-clause-job : goal.returns-clause-job
returns-clause-job g c =
    let rank = g.R.Ranks.rank c.args.ranks.now in
    let indexes = c.args.indexes.now in
    let change = c.args.change.now in
    let d = c.args.draft.now in
    let w = c.args.windows.now in
    let first = c.count_leaving-first.result in
    let gone = c.leaving-gone.ensures ∙ ap (λ ws. kept_side true ws change.gone) c.writes.ensures in
    let number = c.number.ensures ∙ ap number_in gone in
    let count : length (entries_under (entries_in (kept_side true d.group.writes change.gone)) w.payload_type) ≤ length w.entries.items → first ≡ length (entries_under (entries_in (kept_side true d.group.writes change.gone)) w.payload_type) =
    rw (gone, c.get.ensures) at c.count_leaving-first.ensures in
    all_ok c.exchange_job.result _ _ _ _ _ _ _ c.exchange_job.ensures.writes c.exchange_job.ensures.windows c.exchange_job.ensures.line c.exchange_job.ensures.leaving c.exchange_job.ensures.gone c.exchange_job.ensures.met
    (λ job writes windows line leaving of_gone met laid. job_exchanges rank indexes change laid d c.requires.draft w c.requires.own job first writes windows line
    (count (front_fits _ _ w.entries.items (whole rank indexes change laid d c.requires.draft w c.requires.own))) leaving
    (subst (λ o. IfSome job.held (λ h. h.gone ≡ o)) number of_gone) met)
