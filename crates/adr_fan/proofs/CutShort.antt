-- A text that was cut short can be brought to its end.
use Rattle.std.proofs.Common.{◌≡◌, ℕ, zero, suc, ◌+◌, ◌≤◌, List, [], ◌∷◌, ◌++◌, refl, sym, ap, subst, ◌∙◌, arith, append_assoc, inr}
use Rattle.adr_model.specs.declared.entry.Tie.{Tie}
use Rattle.adr_model.specs.Machine.{State, last_number}
use Rattle.adr_script.specs.Script.{Told, IsToldInPart, no_memory}
use Rattle.adr_script.specs.Text.{AnswersBy, text_but, state_but}
use Rattle.adr_script.proofs.TextLemmas.{told_text}
use Rattle.adr_resolver.specs.Fan.{Sent, Fan, fan_start, fan_reply, fan_next, IsReaderPart, AreReaderParts, reader_line, IsFannedOf}
use Rattle.adr_resolver.proofs.Timely.{timely_after, IsSentBy, IsTimely}
use Rattle.adr_fan.specs.Levels.{IsFannedInPart}

-- ---- readers that all lack memory

some_part : (s : State) (sent : List Sent) (seen : ℕ) → seen ≤ last_number s → IsSentBy (last_number s) sent → (out : List ℕ) × IsReaderPart s seen sent out
some_part s [] seen h all = ([], refl)
some_part s (q ∷ sent) seen h all =
    let rest = some_part s sent (last_number s) (omega arith) all.1 in
    (no_memory ++ rest.0, (last_number s, no_memory, rest.0, h, all.0, omega arith, inr refl, rest.1, refl))

some_parts : (s : State) (sent : List Sent) (reader count : ℕ) → IsSentBy (last_number s) sent → (out : List ℕ) × AreReaderParts s sent reader count out
some_parts s sent reader zero all = ([], refl)
some_parts s sent reader (suc count) all =
    let part = some_part s sent 0 (omega arith) all in
    let rest = some_parts s sent (reader + 1) count all in
    (reader_line reader ++ part.0 ++ rest.0, (part.0, rest.0, part.1, rest.1, refl))

-- ---- from what the loop told to what is fanned

abbrev pub Answers : Fan → List ℕ → List ℕ → Fan → Type 0
Answers = AnswersBy fan_reply fan_next

module _ (tie : Tie) (lines : List (List ℕ)) (readers : ℕ) (s t : Fan) (start : s ≡ fan_start tie) where
  -- the editor's replies, and the parts of the readers
  pub fanned : (out parts : List ℕ) → Told Answers s lines out t → AreReaderParts t.machine t.sent 0 readers parts → IsFannedOf tie lines readers (out ++ parts)
  fanned out parts told all =
      let (marks, same, left) = told_text Answers fan_reply fan_next (λ s line told t h. h) s t lines out told in
      (marks, parts, subst (λ (u : Fan). AreReaderParts u.machine u.sent 0 readers parts) (left ∙ ap (λ (u : Fan). state_but fan_next marks u lines) start) all, ap (λ o. o ++ parts) (same ∙ ap (λ (u : Fan). text_but fan_reply fan_next marks u lines) start))

  -- the same, where a write failed amid the parts
  pub fanned_in_part : (out parts front more : List ℕ) → Told Answers s lines out t → AreReaderParts t.machine t.sent 0 readers parts → parts ≡ front ++ more → IsFannedInPart tie lines readers (out ++ front)
  fanned_in_part out parts front more told all cut =
      (more, subst (IsFannedOf tie lines readers) (ap (λ p. out ++ p) cut ∙ sym (append_assoc out front more)) (fanned out parts told all))

  -- the editor's replies, cut short: readers could end it
  pub told_in_part : (out : List ℕ) → IsToldInPart Answers s lines out t → IsFannedInPart tie lines readers out
  told_in_part out (more, told) =
      let (marks, same, left) = told_text Answers fan_reply fan_next (λ s line told t h. h) s t lines (out ++ more) told in
      let end : t ≡ state_but fan_next marks (fan_start tie) lines = left ∙ ap (λ (u : Fan). state_but fan_next marks u lines) start in
      let timely : IsTimely t = subst IsTimely (sym end) (timely_after marks lines (fan_start tie) tt) in
      let parts = some_parts t.machine t.sent 0 readers timely in
      (more ++ parts.0, subst (IsFannedOf tie lines readers) (append_assoc out more parts.0) (fanned (out ++ more) parts.0 told parts.1))
