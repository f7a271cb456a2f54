-- Digits at the end of a text of zeros.
use Rattle.std.proofs.Common.{◌≡◌, ℕ, ◌+◌, ◌-◌, ◌≤◌, List, ◌++◌, length, take, drop, replicate, sym, ap, ◌∙◌, arith}
use Rattle.std.specs.Fmt.{decimal}
use Rattle.std.proofs.lemmas.List.{drop-append-le, drop-replicate, length-replicate, take-append-drop, take-replicate}
use Rattle.adr_value.specs.Text.{places_text}

-- the zeros before them make up the places
pub padded : (text : List ℕ) (start places rest : ℕ) → start + length (decimal rest) ≡ 48 → take start text ≡ take start (replicate 48 48)
    → drop start text ≡ decimal rest → length (decimal rest) ≤ places → places ≤ 48 → drop (48 - places) text ≡ places_text places rest
padded text start places rest at before behind short few =
    let zeros : take start text ≡ replicate start 48 = before ∙ take-replicate start 48 48 (omega arith) in
    let whole : text ≡ replicate start 48 ++ decimal rest =
    sym (take-append-drop start text) ∙ ap (λ front. front ++ drop start text) zeros ∙ ap (λ back. replicate start 48 ++ back) behind in
    let count : start - (48 - places) ≡ places - length (decimal rest) = omega arith in
    ap (drop (48 - places)) whole
    ∙ drop-append-le (48 - places) (replicate start 48) (decimal rest) (omega (arith, length-replicate {A = ℕ} start 48))
    ∙ ap (λ front. front ++ decimal rest) (drop-replicate (48 - places) start 48)
    ∙ ap (λ n. replicate n 48 ++ decimal rest) count
