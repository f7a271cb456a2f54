-- What an edit answers, and what it makes of a book with its timelines.
use Rattle.std.specs.Prelude.{◌≡◌, ◌≤◌, ◌++◌, ◌∷◌, [], Result, Ok, IfOk, OnOk, OnErr}
use Rattle.adr_refusal.specs.Answer.{Answers, result_map}
use Rattle.adr_refusal.specs.declared.refusal.Refusal.{Refusal}
use Rattle.adr_object.specs.declared.object.Edit.{Edit}
use Rattle.adr_model.specs.Edits.{full_at, made, step_to}
use Rattle.adr_model.specs.Touches.{touches}
use Rattle.adr_schedule.specs.Resolved.{Resolved}
use Rattle.adr_regroup.specs.Compared.{most_compared_in}
use Rattle.adr_desk.specs.declared.receipt.Receipt.{Receipt}

-- The answer is the definition's. An accepted edit makes the definition's objects, and goes last in the open batch; the receipt has
-- the version after it, the windows that it touches, and no more comparisons than these allow. A refused one leaves all as it was.
pub record IsApplied (edit : Edit) (old new : Resolved) (result : Result Receipt Refusal) : Type 0 where
  pub answer : Answers (result_map (λ _. made old.book.objects edit) result) (step_to (full_at old.book.base.version) old.book.objects edit)
  pub tie : new.tie ≡ old.tie
  pub base : new.book.base ≡ old.book.base
  pub objects : OnOk result (step_to (full_at old.book.base.version) old.book.objects edit ≡ Ok new.book.objects)
  pub pending : OnOk result (new.book.pending ≡ old.book.pending ++ edit ∷ [])
  pub closed : new.book.closed ≡ old.book.closed
  pub version : IfOk result (λ receipt. receipt.version ≡ new.book.objects.version)
  pub touched : IfOk result (λ receipt. receipt.touched ≡ touches old.book.objects new.book.objects)
  pub compares : IfOk result (λ receipt. receipt.compares ≤ most_compared_in new.book.objects receipt.touched)
  pub unchanged : OnErr result (new ≡ old)
