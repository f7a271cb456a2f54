use Rattle.adr_lines.proofs.Exchanged.{apart_entries, fills_the_index}
use Rattle.adr_lines.proofs.laws.filling_laws.Goals as goal

pub returns-clause-apart : goal.returns-clause-apart
returns-clause-apart c = apart_entries

pub returns-clause-fills : goal.returns-clause-fills
returns-clause-fills c = fills_the_index
