use Rattle.std.proofs.Common.{arith}
use Rattle.adr_value.proofs.PowerLemmas.{pow-small, pow-positive}
use Rattle.adr_calendar.proofs.printing.power_of_ten.Goals as goal

pub pow-requires : goal.pow-requires
pow-requires c = omega (arith, pow-small c.args.places c.requires)

pub returns-clause-positive : goal.returns-clause-positive
returns-clause-positive c = omega (arith, pow-positive c.args.places, c.pow.ensures)
