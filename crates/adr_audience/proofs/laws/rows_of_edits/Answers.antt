use Rattle.adr_audience.proofs.Edited.{rows_of_created, rows_of_changed, rows_of_removed, rows_of_changed_ven, rows_of_created_ven, rows_of_removed_ven, rows_of_others}
use Rattle.adr_audience.proofs.laws.rows_of_edits.Goals as goal

pub returns : goal.returns
returns c = record { created = rows_of_created; changed = rows_of_changed; removed = rows_of_removed; changed_ven = rows_of_changed_ven; created_ven = rows_of_created_ven; removed_ven = rows_of_removed_ven; others = rows_of_others }
