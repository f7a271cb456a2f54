use Rattle.adr_fan.proofs.fanning.fan.Given as goal

-- the history of the board that is opened, and its rule for ties
abbrev pub ghosts-fan_as : goal.ghosts-fan_as
ghosts-fan_as g a = record { history = a.board.diary.page.book; tie = a.tie }
