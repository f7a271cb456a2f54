use Rattle.adr_board.proofs.run.replay.Given as goal

-- the history of the board that is opened, and its rule for ties
abbrev pub ghosts-replay_as : goal.ghosts-replay_as
ghosts-replay_as g a = record { history = a.board.diary.page.book; tie = a.tie }
