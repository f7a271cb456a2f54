-- Runs of replies, one behind the other.
use Rattle.std.proofs.Common.{ℕ, List, [], ◌∷◌, ◌++◌, refl, sym, ap, ◌∙◌, subst, append_assoc, append-nil, inr}
use Rattle.adr_script.specs.Script.{LineStep, Told, IsToldInPart, no_memory}

module _ {S : Type 0} (answers : S → List ℕ → List ℕ → S → Type 0) where
  pub told-append : (s t u : S) (lines more : List (List ℕ)) (out rest : List ℕ) → Told answers s lines out t → Told answers t more rest u → Told answers s (lines ++ more) (out ++ rest) u
  told-append s t u [] more out rest (none, same) h =
      subst (λ o. Told answers s more (o ++ rest) u) (sym none) (subst (λ x. Told answers x more rest u) same h)
  told-append s t u (line ∷ lines) more out rest (reply, later, mid, step, told, is) h =
      (reply, later ++ rest, mid, step, told-append mid t u lines more later rest told h, ap (λ o. o ++ rest) is ∙ append_assoc reply later rest)

  pub told-one : (s t : S) (line reply : List ℕ) → LineStep answers s line reply t → Told answers s (line ∷ []) reply t
  told-one s t line reply step = (reply, [], t, step, (refl, refl), sym (append-nil reply))

  -- each line may be refused for want of memory
  pub told-refused : (s : S) (lines : List (List ℕ)) → (out : List ℕ) × Told answers s lines out s
  told-refused s [] = ([], (refl, refl))
  told-refused s (line ∷ lines) =
      let (out, told) = told-refused s lines in (no_memory ++ out, (no_memory, out, s, inr (refl, refl), told, refl))

  pub part-more : (s t : S) (lines later : List (List ℕ)) (out : List ℕ) → IsToldInPart answers s lines out t → IsToldInPart answers s (lines ++ later) out t
  part-more s t lines later out (more, told) =
      let (rest, refused) = told-refused t later in
      (more ++ rest, subst (λ o. Told answers s (lines ++ later) o t) (append_assoc out more rest) (told-append s t t lines later (out ++ more) rest told refused))

  pub part-behind : (s t u : S) (lines later : List (List ℕ)) (out part : List ℕ) → Told answers s lines out t → IsToldInPart answers t later part u → IsToldInPart answers s (lines ++ later) (out ++ part) u
  part-behind s t u lines later out part told (more, rest) =
      (more, subst (λ o. Told answers s (lines ++ later) o u) (sym (append_assoc out part more)) (told-append s t u lines later out (part ++ more) told rest))
