-- Lists of steps.
use Rattle.std.proofs.Common.{◌++◌, ◌∷◌, [], ℕ, List, All}
use Rattle.std.proofs.lemmas.List.Elements.{All-append, All-cons, All-nil}
use Rattle.adr_board.specs.declared.run_steps.Step.{Step}
use Rattle.adr_board.specs.Replay.{NamesReader}

-- one more step of so many readers
pub one_more : (readers : ℕ) (steps : List Step) (step : Step) → All (NamesReader readers) steps → NamesReader readers step → All (NamesReader readers) (steps ++ step ∷ [])
one_more readers steps step all one =
    All-append (NamesReader readers) steps (step ∷ []) all (All-cons (NamesReader readers) step [] one (All-nil (NamesReader readers)))
