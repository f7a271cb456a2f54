use Rattle.adr_value.proofs.PayloadTable.{rows_agree, names_return, codes_return, private_names_differ}
use Rattle.adr_value.proofs.payload.payload_laws.Goals as goal

pub returns-clause-rows : goal.returns-clause-rows
returns-clause-rows c = rows_agree

pub returns-clause-names : goal.returns-clause-names
returns-clause-names c = names_return

pub returns-clause-codes : goal.returns-clause-codes
returns-clause-codes c = codes_return

pub returns-clause-private : goal.returns-clause-private
returns-clause-private c = private_names_differ
