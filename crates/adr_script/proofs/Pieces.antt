-- One line more of a piece.
use Rattle.std.proofs.Common.{◌≡◌, ◌≢◌, ℕ, List, [], ◌∷◌, ◌++◌, refl, sym, ap, ◌∙◌, subst, append_assoc, append-nil, All, ◌<◌, length, arith}
use Rattle.std.proofs.lemmas.List.Elements.{recursion_from_All}
use Rattle.adr_script.specs.Lines.{complete_from, rest_from, last_line, IsPlain}
use Rattle.adr_script.specs.Script.{LineStep, Told, IsToldInPart}
use Rattle.adr_script.proofs.Cutting.{complete-append, rest-append, complete-line, rest-line, complete-plain, rest-plain}
use Rattle.adr_script.proofs.Telling.{told-append, told-one, part-more}

pub plain : (xs : List ℕ) → All (λ byte. byte ≢ 10) xs → IsPlain xs
plain xs h = recursion_from_All (λ byte. byte ≢ 10) xs h

pub split_more : (piece front rest end behind : List ℕ) → piece ≡ front ++ rest → rest ≡ end ++ 10 ∷ behind → piece ≡ (front ++ (end ++ 10 ∷ [])) ++ behind
split_more piece front rest end behind e h =
    e ∙ ap (λ l. front ++ l) (h ∙ sym (append_assoc end (10 ∷ []) behind)) ∙ sym (append_assoc front (end ++ 10 ∷ []) behind)

pub rest_more : (line front end : List ℕ) → rest_from line (front ++ (end ++ 10 ∷ [])) ≡ []
rest_more line front end = rest-append line front (end ++ 10 ∷ []) ∙ rest-line (rest_from line front) end

pub lines_more : (line front end : List ℕ) → IsPlain end → complete_from line (front ++ (end ++ 10 ∷ [])) ≡ complete_from line front ++ (rest_from line front ++ end) ∷ []
lines_more line front end h = complete-append line front (end ++ 10 ∷ []) ∙ ap (λ ls. complete_from line front ++ ls) (complete-line (rest_from line front) end h)

module _ {S : Type 0} (answers : S → List ℕ → List ℕ → S → Type 0) where
  pub told_more : (s t u : S) (line front end out reply : List ℕ) → IsPlain end → Told answers s (complete_from line front) out t
      → LineStep answers t (rest_from line front ++ end) reply u → Told answers s (complete_from line (front ++ (end ++ 10 ∷ []))) (out ++ reply) u
  told_more s t u line front end out reply h told step =
      subst (λ ls. Told answers s ls (out ++ reply) u) (sym (lines_more line front end h))
      (told-append answers s t u (complete_from line front) ((rest_from line front ++ end) ∷ []) out reply told (told-one answers t u (rest_from line front ++ end) reply step))

  -- of the replies to a front of the piece and a line more, some are written
  pub told_short : (s t : S) (line piece front rest end behind out : List ℕ) → piece ≡ front ++ rest → rest ≡ end ++ 10 ∷ behind
      → IsToldInPart answers s (complete_from line (front ++ (end ++ 10 ∷ []))) out t → IsToldInPart answers s (complete_from line piece) out t
  told_short s t line piece front rest end behind out e split here =
      let front' = front ++ (end ++ 10 ∷ []) in
      let all : complete_from line piece ≡ complete_from line front' ++ complete_from (rest_from line front') behind =
      ap (complete_from line) (split_more piece front rest end behind e split) ∙ complete-append line front' behind in
      subst (λ ls. IsToldInPart answers s ls out t) (sym all) (part-more answers s t _ (complete_from (rest_from line front') behind) out here)

pub lines_none : (line piece front rest : List ℕ) → piece ≡ front ++ rest → IsPlain rest → complete_from line piece ≡ complete_from line front
lines_none line piece front rest e h =
    ap (complete_from line) e ∙ complete-append line front rest ∙ ap (λ ls. complete_from line front ++ ls) (complete-plain (rest_from line front) rest h) ∙ append-nil _

pub rest_none : (line piece front rest : List ℕ) → piece ≡ front ++ rest → IsPlain rest → rest_from line piece ≡ rest_from line front ++ rest
rest_none line piece front rest e h = ap (rest_from line) e ∙ rest-append line front rest ∙ rest-plain (rest_from line front) rest h

last_byte : (line : List ℕ) → 0 < length line → last_line line ≡ line ∷ []
last_byte [] h = absurd (omega arith)
last_byte (b ∷ line) h = refl

-- the reply to a last line
pub told_last : {S : Type 0} (answers : S → List ℕ → List ℕ → S → Type 0) (s t : S) (line told : List ℕ) → 0 < length line → LineStep answers s line told t
    → Told answers s (last_line line) told t
told_last answers s t line told some step = subst (λ ls. Told answers s ls told t) (sym (last_byte line some)) (told-one answers s t line told step)
