use Rattle.adr_seats.proofs.Among.{all-among, no-more, found-distinct}
use Rattle.adr_seats.proofs.law.all_of_a_slot.Goals as goal

pub returns-clause-all : goal.returns-clause-all
returns-clause-all c = all-among

pub returns-clause-bound : goal.returns-clause-bound
returns-clause-bound c = no-more

pub returns-clause-found : goal.returns-clause-found
returns-clause-found c = found-distinct
