use Rattle.adr_refusal.proofs.Refusals.{of_number-number_of}
use Rattle.adr_refusal.proofs.refusal.refusal_laws.Goals as goal

pub returns : goal.returns
returns c = of_number-number_of
