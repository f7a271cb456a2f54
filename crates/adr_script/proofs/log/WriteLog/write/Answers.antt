use Rattle.adr_script.proofs.log.WriteLog.write.Goals as goal

pub returns-in-Some-clause-err : goal.returns-in-Some-clause-err
returns-in-Some-clause-err g c = tt
