-- What a machine tells that is a function.
use Rattle.std.proofs.Common.{◌≡◌, ℕ, Bool, true, false, List, [], ◌∷◌, ◌++◌, length, Option, refl, ap, ◌∙◌, inl, inr, ltb, cond}
use Rattle.std.specs.Bool.{MatchBool}
use Rattle.std.specs.Io.BufRead.{strip_last}
use Rattle.adr_script.specs.Script.{Told, Moves, long_line, no_memory}
use Rattle.adr_script.specs.Text.{AnswersBy, IsText, text, text_but, state_but, line_reply, after_line}

-- what holds of all that is read and written
pub moves_weaker : (a b c d : Option (List ℕ)) (P Q : List ℕ → List ℕ → Type 0) → ((bytes out : List ℕ) → P bytes out → Q bytes out) → Moves a b c d P → Moves a b c d Q
moves_weaker a b c d P Q f (bytes, out, consumed, appended, h) = (bytes, out, consumed, appended, f bytes out h)

module _ {S : Type 0} (reply : S → List ℕ → List ℕ) (next : S → List ℕ → S) where
  -- where no line is marked
  pub text_but-nil : (s : S) (lines : List (List ℕ)) → text_but reply next [] s lines ≡ text reply next s lines
  text_but-nil s [] = refl
  text_but-nil s (line ∷ lines) = ap (λ r. line_reply reply s line ++ r) (text_but-nil (after_line next s line) lines)

module _ {S : Type 0} (answers : S → List ℕ → List ℕ → S → Type 0) (reply : S → List ℕ → List ℕ) (next : S → List ℕ → S)
    (exact : (s : S) (line told : List ℕ) (t : S) → answers s line told t → AnswersBy reply next s line told t) where
  line_exact : (s t : S) (line told : List ℕ) → MatchBool (ltb 4194304 (length line)) ((told ≡ long_line) × (t ≡ s)) (answers s (strip_last 13 line) told t)
      → (told ≡ line_reply reply s line) × (t ≡ after_line next s line)
  line_exact s t line told =
      elim (ltb 4194304 (length line)) as (λ v. MatchBool v ((told ≡ long_line) × (t ≡ s)) (answers s (strip_last 13 line) told t)
      → (told ≡ cond v long_line (reply s (strip_last 13 line))) × (t ≡ cond v s (next s (strip_last 13 line)))) [
        | true ↦ λ h. h
        | false ↦ λ h. exact s (strip_last 13 line) told t h
      ]

  -- it tells the text, with a mark at each line that was refused for want of memory
  pub told_text : (s t : S) (lines : List (List ℕ)) (out : List ℕ) → Told answers s lines out t
      → (marks : List Bool) × (out ≡ text_but reply next marks s lines) × (t ≡ state_but next marks s lines)
  told_text s t [] out h = ([], h.0, h.1)
  told_text s t (line ∷ lines) out (told, rest, mid, step, later, is) =
      let (marks, same, left) = told_text mid t lines rest later in
      elim step [
        | inl h ↦
            let e = line_exact s mid line told h in (
              false ∷ marks,
              is ∙ ap (λ r. r ++ rest) e.0 ∙ ap (λ r. line_reply reply s line ++ r) (same ∙ ap (λ u. text_but reply next marks u lines) e.1),
              left ∙ ap (λ u. state_but next marks u lines) e.1,
            )
        | inr h ↦ (
          true ∷ marks,
          is ∙ ap (λ r. r ++ rest) h.0 ∙ ap (λ r. no_memory ++ r) (same ∙ ap (λ u. text_but reply next marks u lines) h.1),
          left ∙ ap (λ u. state_but next marks u lines) h.1,
        )
      ]

  -- a machine that begins as `start`
  pub told_is_text : (start s t : S) (lines : List (List ℕ)) (out : List ℕ) → s ≡ start → Told answers s lines out t → IsText reply next start lines out
  told_is_text start s t lines out same h =
      let (marks, is, left) = told_text s t lines out h in (marks, is ∙ ap (λ u. text_but reply next marks u lines) same)

  pub moves_text : (a b c d : Option (List ℕ)) (lines_of : List ℕ → List (List ℕ)) (start s t : S) → s ≡ start
      → Moves a b c d (λ bytes out. Told answers s (lines_of bytes) out t) → Moves a b c d (λ bytes out. IsText reply next start (lines_of bytes) out)
  moves_text a b c d lines_of start s t same (bytes, out, consumed, appended, told) =
      (bytes, out, consumed, appended, told_is_text start s t (lines_of bytes) out same told)

-- Two machines whose states are alike, and stay so while they reply the same, tell one text.
module _ {S T : Type 0} (reply : S → List ℕ → List ℕ) (next : S → List ℕ → S) (other : T → List ℕ → List ℕ) (onward : T → List ℕ → T)
    (Alike : S → T → Type 0) (step : (s : S) (t : T) (line : List ℕ) → Alike s t → (reply s line ≡ other t line) × Alike (next s line) (onward t line)) where
  line_alike : (s : S) (t : T) (line : List ℕ) → Alike s t
      → (line_reply reply s line ≡ line_reply other t line) × Alike (after_line next s line) (after_line onward t line)
  line_alike s t line h =
      let short = step s t (strip_last 13 line) h in
      elim (ltb 4194304 (length line)) as (λ v. (cond v long_line (reply s (strip_last 13 line)) ≡ cond v long_line (other t (strip_last 13 line)))
      × Alike (cond v s (next s (strip_last 13 line))) (cond v t (onward t (strip_last 13 line)))) [
        | true ↦ (refl, h)
        | false ↦ short
      ]

  pub alike_text : (marks : List Bool) (s : S) (t : T) (lines : List (List ℕ)) → Alike s t → text_but reply next marks s lines ≡ text_but other onward marks t lines
  alike_text marks s t [] h = refl
  alike_text [] s t (line ∷ lines) h =
      let one = line_alike s t line h in
      ap (λ r. r ++ text_but reply next [] (after_line next s line) lines) one.0
      ∙ ap (λ r. line_reply other t line ++ r) (alike_text [] (after_line next s line) (after_line onward t line) lines one.1)
  alike_text (true ∷ marks) s t (line ∷ lines) h = ap (λ r. no_memory ++ r) (alike_text marks s t lines h)
  alike_text (false ∷ marks) s t (line ∷ lines) h =
      let one = line_alike s t line h in
      ap (λ r. r ++ text_but reply next marks (after_line next s line) lines) one.0
      ∙ ap (λ r. line_reply other t line ++ r) (alike_text marks (after_line next s line) (after_line onward t line) lines one.1)

  pub alike_IsText : (s : S) (t : T) (lines : List (List ℕ)) (out : List ℕ) → Alike s t → IsText reply next s lines out → IsText other onward t lines out
  alike_IsText s t lines out h (marks, same) = (marks, same ∙ alike_text marks s t lines h)
