use Rattle.adr_calls.proofs.board.session.try_lines.Given as goal

-- the history of the board that is opened, and its rule for ties
abbrev pub ghosts-on_board : goal.ghosts-on_board
ghosts-on_board g a = record { history = a.board.diary.page.book; tie = a.tie }
