-- From the least number of an edit's faults to its verdict.
use Rattle.std.proofs.Common.{◌≡◌, ℕ, ◌⊎◌, inl, inr, List, ◌++◌, refl, sym, ◌∙◌, arith}
use Rattle.std.specs.Prelude.{Result, Ok, Err}
use Rattle.adr_refusal.specs.Answer.{Answers, result_map}
use Rattle.adr_refusal.specs.Faults.{Gives, judged, least, none}
use Rattle.adr_refusal.specs.declared.refusal.Refusal.{Refusal}
use Rattle.adr_refusal.specs.declared.refusal.Refusal.TheVariants.{NoMemory}
use Rattle.adr_refusal.proofs.Judged.{answers, judged-ok, least-append, least_le}
use Rattle.adr_object.specs.declared.object.Edit.{Edit}
use Rattle.adr_object.specs.declared.object.Edit.TheVariants.{Create, Change, Remove}
use Rattle.adr_model.specs.Book.{Book}
use Rattle.adr_model.specs.Edits.{faults_to}
use Rattle.adr_book.specs.Judged.{layout_faults_of, verdict_of}

no_first : (fs gs : List Refusal) → least (fs ++ gs) ≡ none → least fs ≡ none
no_first fs gs h = omega (arith, h, least-append fs gs, least_le fs, least_le gs)

-- an edit without a fault has none of its layout
pub laid_out : (full : ℕ) (book : Book) (x : Edit) → least (faults_to full book x) ≡ none → least (layout_faults_of x) ≡ none
laid_out full book (Create o) h = no_first _ _ (no_first _ _ (no_first _ _ h))
laid_out full book (Change o) h = no_first _ _ (no_first _ _ (no_first _ _ h))
laid_out full book (Remove kind id) h = refl

-- where nothing is at fault, the layout's answer is the verdict
pub layout_verdict : {L T : Type 0} (r : Result L Refusal) (ls fs : List Refusal) (v : T)
    → Gives (verdict_of r) ls tt → least ls ≡ none → least fs ≡ none → Answers (result_map (λ _. v) r) (judged fs v)
layout_verdict (Ok x) ls fs v h l e = judged-ok fs v e
layout_verdict (Err f) ls fs v h l e = by (answers (Err f) ls v h)
  where
    by : (f ≡ NoMemory) ⊎ (judged ls v ≡ Err f) → (f ≡ NoMemory) ⊎ (judged fs v ≡ Err f)
    by (inl m) = inl m
    by (inr g) = inr (judged-ok fs v e ∙ sym (judged-ok ls v l) ∙ g)
