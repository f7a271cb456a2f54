use Rattle.adr_resolver.proofs.program.run.Given as goal

-- the history of the board that is opened, and its rule for ties
abbrev pub ghosts-run_on : goal.ghosts-run_on
ghosts-run_on g a = record { history = a.board.diary.page.book; tie = a.tie }
