use Rattle.adr_audience.proofs.AskedEdits.{asks_of_created, asks_of_changed, asks_of_removed, asks_of_changed_program, asks_of_created_program, asks_of_removed_program, asks_of_others}
use Rattle.adr_audience.proofs.laws.asks_of_edits.Goals as goal

pub returns : goal.returns
returns c = record {
  created = asks_of_created;
  changed = asks_of_changed;
  removed = asks_of_removed;
  changed_program = asks_of_changed_program;
  created_program = asks_of_created_program;
  removed_program = asks_of_removed_program;
  others = asks_of_others;
}
