use Rattle.adr_value.proofs.PrintedLemmas.{texts_read_back, values_have_one_form}
use Rattle.adr_value.proofs.print.decimal_laws.Goals as goal

pub returns-clause-reads_back : goal.returns-clause-reads_back
returns-clause-reads_back c = texts_read_back

pub returns-clause-one_form : goal.returns-clause-one_form
returns-clause-one_form c = values_have_one_form
