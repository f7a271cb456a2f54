use Rattle.adr_calls.proofs.board.opening.open_new.Given as goal

-- the history of the board that is opened, and its rule for ties
abbrev pub ghosts-open : goal.ghosts-open
ghosts-open g a = record { history = a.board.diary.page.book; tie = a.tie }
