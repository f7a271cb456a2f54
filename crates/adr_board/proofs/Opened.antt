-- A new board, and a run on it.
use Rattle.std.proofs.Common.{◌≡◌, ℕ, ◌+◌, false, List, [], ◌∷◌, ◌++◌, length, replicate, Result, Ok, Err, IfOk, ap, ◌∙◌, sym, subst, if◌then◌else◌, is_err, is_ok}
use Rattle.std.proofs.lemmas.List.Elements.{All-append, All-cons, All-nil}
use Rattle.std.specs.Prelude.{All}
use Rattle.std.specs.declared.vec.Vec.{Vec}
use Rattle.adr_refusal.specs.declared.refusal.Refusal.{Refusal}
use Rattle.adr_model.specs.declared.entry.Tie.{Tie}
use Rattle.adr_model.specs.Book.{empty}
use Rattle.adr_model.specs.Machine.{State, start}
use Rattle.adr_board.specs.Boards.{Board, View, newcomer}
use Rattle.adr_board.specs.Publications.{opening_book, publications_in}
use Rattle.adr_board.specs.declared.run_steps.Step.{Step}
use Rattle.adr_board.specs.declared.run_steps.Shown.{Shown}
use Rattle.adr_board.specs.Replay.{AreSteps, IsRun, state_of}
use Rattle.adr_board.proofs.Reached.{newcomers_reached}

-- one more newcomer, where there was room for it
pub one_more : {X E : Type 0} (r : Result X E) (before after : List View) (reader : View) (old new count : ℕ)
    → is_err r ≡ false → after ≡ (if is_ok r then before ++ reader ∷ [] else before) → new ≡ (if is_ok r then old + 1 else old)
    → old ≡ count → All (λ v. v ≡ newcomer) before → reader ≡ newcomer → (new ≡ count + 1) × All (λ v. v ≡ newcomer) after
one_more (Ok x) before after reader old new count room list long counted all one =
    (long ∙ ap (λ (n : ℕ). n + 1) counted, subst (λ (vs : List View). All (λ v. v ≡ newcomer) vs) (sym list) (All-append (λ v. v ≡ newcomer) before (reader ∷ []) all (All-cons (λ v. v ≡ newcomer) reader [] one (All-nil (λ v. v ≡ newcomer)))))
one_more (Err e) before after reader old new count room list long counted all one = absurd (cc (room))

-- the board as it was opened
pub record IsOpened (b : Board) (views : List View) (tie : Tie) (readers : ℕ) : Type 0 where
  pub rule : b.tie ≡ tie
  pub base : b.book.base ≡ empty
  pub objects : b.book.objects ≡ empty
  pub pending : b.book.pending ≡ []
  pub published : b.published ≡ opening_book ∷ []
  pub count : length views ≡ readers
  pub newcomers : All (λ v. v ≡ newcomer) views

from_start : (b c : Board) (views after : List View) (tie : Tie) (readers : ℕ) (steps : List Step) (shown : List Shown) → IsOpened b views tie readers → AreSteps b views steps shown c after
    → (end : State) × IsRun (start tie readers) steps shown end
from_start b c views after tie readers steps shown opened run =
    let zero : b.book.base.version ≡ 0 = ap (λ x. x.version) opened.base in
    let begin : state_of b (replicate readers 0) ≡ start tie readers = cc (opened.rule, zero, opened.objects, opened.pending, ap publications_in opened.published) in
    let (next, there, goes) = run (replicate readers 0) (newcomers_reached views readers opened.newcomers opened.count) in
    (state_of c next, subst (λ (s : State). IsRun s steps shown (state_of c next)) begin goes)

-- steps from there are a run from the start
pub each_from_start : {Z : Type 0} (r : Result (Vec Shown Z) Refusal) (b c : Board) (views after : List View) (tie : Tie) (readers : ℕ) (steps : List Step) → IsOpened b views tie readers
    → IfOk r (λ shown. AreSteps b views steps shown.items c after) → IfOk r (λ shown. (end : State) × IsRun (start tie readers) steps shown.items end)
each_from_start (Ok shown) b c views after tie readers steps opened run = from_start b c views after tie readers steps shown.items opened run
each_from_start (Err e) b c views after tie readers steps opened run = tt
