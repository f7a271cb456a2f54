-- Steps, one after the other.
use Rattle.std.proofs.Common.{◌≡◌, ℕ, List, [], ◌∷◌, ◌++◌, Result, Ok, Err, IfOk, refl, sym, subst, append_assoc, append-nil}
use Rattle.adr_model.specs.Machine.{State}
use Rattle.adr_board.specs.Boards.{Board, View}
use Rattle.adr_board.specs.declared.run_steps.Step.{Step}
use Rattle.adr_board.specs.declared.run_steps.Shown.{Shown}
use Rattle.adr_board.specs.Replay.{AreReached, AreSteps, IsRun, IsStep, state_of}

-- whatever the steps that are left show goes on from what was shown
abbrev pub LeadsOn : Board → List View → List Step → List Shown → Board → List View → List Step → Type 0
LeadsOn b views steps shown c after left =
    (numbers : List ℕ) → AreReached numbers views
    → (next : List ℕ) × AreReached next after
    × ((more : List Shown) (t : State) → IsRun (state_of c next) left more t → IsRun (state_of b numbers) steps (shown ++ more) t)

pub leads_first : (b : Board) (views : List View) (steps : List Step) → LeadsOn b views steps [] b views steps
leads_first b views steps numbers reached = (numbers, reached, λ more t run. run)

pub leads_next : (b c d : Board) (views after later : List View) (steps left : List Step) (step : Step) (shown : List Shown) (x : Shown)
    → LeadsOn b views steps shown c after (step ∷ left) → IsStep c after step x d later → LeadsOn b views steps (shown ++ x ∷ []) d later left
leads_next b c d views after later steps left step shown x leads one numbers reached =
    let (next, there, go) = leads numbers reached in
    let (new, here, takes) = one next there in (
      new,
      here,
      (λ more t run. subst (λ (l : List Shown). IsRun (state_of b numbers) steps l t) (sym (append_assoc shown (x ∷ []) more)) (go (x ∷ more) t (state_of d new, takes, run))),
    )

pub leads_last : (b c : Board) (views after : List View) (steps : List Step) (shown : List Shown) → LeadsOn b views steps shown c after [] → AreSteps b views steps shown c after
leads_last b c views after steps shown leads numbers reached =
    let (next, there, go) = leads numbers reached in
    (next, there, subst (λ (l : List Shown). IsRun (state_of b numbers) steps l (state_of c next)) (append-nil shown) (go [] (state_of c next) refl))

-- a step that is one whatever readers know is one at what they know
pub at_views : {E : Type 0} (r : Result Shown E) (b c : Board) (views : List View) (step is : Step) → step ≡ is → IfOk r (λ x. (any : List View) → IsStep b any is x c any) → IfOk r (λ x. IsStep b views step x c views)
at_views (Ok x) b c views step is same one = subst (λ (s : Step). IsStep b views s x c views) (sym same) (one views)
at_views (Err e) b c views step is same one = tt
