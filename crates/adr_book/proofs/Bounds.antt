-- An edit that is accepted over a base is accepted with no base, and leads to the same book.
use Rattle.std.proofs.Common.{◌≡◌, ℕ, Ok, IsOk, refl, subst, sym, ◌∙◌}
use Rattle.adr_object.specs.declared.object.Edit.{Edit}
use Rattle.adr_model.specs.Book.{Book}
use Rattle.adr_model.specs.Edits.{full_at, step, step_to}
use Rattle.adr_model.proofs.EditLemmas.{bases_only_refuse}
use Rattle.adr_store.proofs.Accepted.{is_ok}

module _ (base : ℕ) (old : Book) (x : Edit) (h : IsOk (step_to (full_at base) old x)) where
  pub accepted_too : IsOk (step old x)
  accepted_too = let s = is_ok (step_to (full_at base) old x) h in subst (λ r. IsOk r) (sym (bases_only_refuse base old s.0 x s.1)) refl

  pub same_step : (new : Book) → step old x ≡ Ok new → step_to (full_at base) old x ≡ Ok new
  same_step new e = let s = is_ok (step_to (full_at base) old x) h in s.1 ∙ sym (bases_only_refuse base old s.0 x s.1) ∙ e
