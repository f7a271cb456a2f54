use Rattle.adr_model.specs.declared.entry.Tie.TheVariants.{Newest}
use Rattle.adr_trials.proofs.looking.print_lookers.Given as goal

-- the history of the board that is opened, and its rule for ties
abbrev pub ghosts-looked : goal.ghosts-looked
ghosts-looked g a = record { history = a.board.diary.page.book; tie = Newest }
