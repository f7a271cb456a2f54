use Rattle.adr_calls.proofs.board.opening.over_new.Given as goal

-- the history of the board that is opened, and its rule for ties
abbrev pub ghosts-over : goal.ghosts-over
ghosts-over g a = record { history = a.board.diary.page.book; tie = a.desk.tie }
