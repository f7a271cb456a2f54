use Rattle.adr_model.specs.declared.entry.Tie.TheVariants.{Newest}
use Rattle.adr_trials.proofs.lives.print_life.Given as goal

-- the history of the board that is opened, and its rule for ties
abbrev pub ghosts-lived : goal.ghosts-lived
ghosts-lived g a = record { history = a.board.diary.page.book; tie = Newest }
