use Rattle.adr_schedule.proofs.draft.draft_with.Goals as goal

pub returns-clause-windows : goal.returns-clause-windows
returns-clause-windows c = c.in_ok-windows.ensures.alike
