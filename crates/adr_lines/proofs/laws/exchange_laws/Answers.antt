use Rattle.adr_lines.proofs.Exchanged.{fits_the_index, keeps_the_index, makes_the_index, undone}
use Rattle.adr_lines.proofs.laws.exchange_laws.Goals as goal

pub returns-clause-fits : goal.returns-clause-fits
returns-clause-fits c = fits_the_index

pub returns-clause-makes : goal.returns-clause-makes
returns-clause-makes c = makes_the_index

pub returns-clause-keeps : goal.returns-clause-keeps
returns-clause-keeps c = keeps_the_index

pub returns-clause-undone : goal.returns-clause-undone
returns-clause-undone c = undone
