-- How the lines of a piece follow those before it.
use Rattle.std.proofs.Common.{◌≡◌, ℕ, List, [], ◌∷◌, ◌++◌, refl, sym, ap, ◌∙◌, append_assoc, append-nil, eqb, cond, true, false, inl, inr}
use Rattle.std.specs.List.{AllByRecursion, flat_map}
use Rattle.std.proofs.lemmas.Bool.{ne_eqb}
use Rattle.std.proofs.lemmas.Bool.Decides.{eqb_tells}
use Rattle.adr_script.specs.Lines.{complete_from, rest_from, complete_lines, with_feed, IsPlain, Cuts}

pub complete-append : (line xs ys : List ℕ) → complete_from line (xs ++ ys) ≡ complete_from line xs ++ complete_from (rest_from line xs) ys
complete-append line [] ys = refl
complete-append line (x ∷ xs) ys =
    elim (eqb x 10) as (λ v. cond v (line ∷ complete_from [] (xs ++ ys)) (complete_from (line ++ x ∷ []) (xs ++ ys))
    ≡ cond v (line ∷ complete_from [] xs) (complete_from (line ++ x ∷ []) xs) ++ complete_from (cond v (rest_from [] xs) (rest_from (line ++ x ∷ []) xs)) ys) [
      | true ↦ ap (λ ls. line ∷ ls) (complete-append [] xs ys)
      | false ↦ complete-append (line ++ x ∷ []) xs ys
    ]

pub rest-append : (line xs ys : List ℕ) → rest_from line (xs ++ ys) ≡ rest_from (rest_from line xs) ys
rest-append line [] ys = refl
rest-append line (x ∷ xs) ys =
    elim (eqb x 10) as (λ v. cond v (rest_from [] (xs ++ ys)) (rest_from (line ++ x ∷ []) (xs ++ ys))
    ≡ rest_from (cond v (rest_from [] xs) (rest_from (line ++ x ∷ []) xs)) ys) [
      | true ↦ rest-append [] xs ys
      | false ↦ rest-append (line ++ x ∷ []) xs ys
    ]

pub complete-plain : (line xs : List ℕ) → IsPlain xs → complete_from line xs ≡ []
complete-plain line [] h = refl
complete-plain line (x ∷ xs) h =
    ap (λ v. cond v (line ∷ complete_from [] xs) (complete_from (line ++ x ∷ []) xs)) (ne_eqb x 10 h.0) ∙ complete-plain (line ++ x ∷ []) xs h.1

pub rest-plain : (line xs : List ℕ) → IsPlain xs → rest_from line xs ≡ line ++ xs
rest-plain line [] h = sym (append-nil line)
rest-plain line (x ∷ xs) h =
    ap (λ v. cond v (rest_from [] xs) (rest_from (line ++ x ∷ []) xs)) (ne_eqb x 10 h.0) ∙ rest-plain (line ++ x ∷ []) xs h.1 ∙ append_assoc line (x ∷ []) xs

-- a line that is complete with xs and a line feed
pub complete-line : (line xs : List ℕ) → IsPlain xs → complete_from line (xs ++ 10 ∷ []) ≡ (line ++ xs) ∷ []
complete-line line xs h = complete-append line xs (10 ∷ []) ∙ ap (λ ls. ls ++ rest_from line xs ∷ []) (complete-plain line xs h) ∙ ap (λ l. l ∷ []) (rest-plain line xs h)

pub rest-line : (line xs : List ℕ) → rest_from line (xs ++ 10 ∷ []) ≡ []
rest-line line xs = rest-append line xs (10 ∷ [])

plain-append : (xs ys : List ℕ) → IsPlain xs → IsPlain ys → IsPlain (xs ++ ys)
plain-append [] ys p q = q
plain-append (x ∷ xs) ys p q = (p.0, plain-append xs ys p.1 q)

-- what is cut makes up the bytes again
whole : (line bytes : List ℕ) → line ++ bytes ≡ flat_map with_feed (complete_from line bytes) ++ rest_from line bytes
whole line [] = append-nil line
whole line (x ∷ bytes) = elim (eqb_tells x 10) [
  | inl h ↦
      ap (λ b. line ++ b ∷ bytes) h.1 ∙ sym (append_assoc line (10 ∷ []) bytes)
      ∙ ap (λ l. (line ++ 10 ∷ []) ++ l) (whole [] bytes)
      ∙ sym (append_assoc (line ++ 10 ∷ []) (flat_map with_feed (complete_from [] bytes)) (rest_from [] bytes))
      ∙ ap (λ v. flat_map with_feed (cond v (line ∷ complete_from [] bytes) (complete_from (line ++ x ∷ []) bytes)) ++ cond v (rest_from [] bytes) (rest_from (line ++ x ∷ []) bytes)) (sym h.0)
  | inr h ↦
      sym (append_assoc line (x ∷ []) bytes) ∙ whole (line ++ x ∷ []) bytes
      ∙ ap (λ v. flat_map with_feed (cond v (line ∷ complete_from [] bytes) (complete_from (line ++ x ∷ []) bytes)) ++ cond v (rest_from [] bytes) (rest_from (line ++ x ∷ []) bytes)) (sym h.0)
]

plain_parts : (line bytes : List ℕ) → IsPlain line → AllByRecursion IsPlain (complete_from line bytes) × IsPlain (rest_from line bytes)
plain_parts line [] p = (tt, p)
plain_parts line (x ∷ bytes) p = elim (eqb_tells x 10) [
  | inl h ↦ rw h.0 (let q = plain_parts [] bytes tt in ((p, q.0), q.1))
  | inr h ↦ rw h.0 (plain_parts (line ++ x ∷ []) bytes (plain-append line (x ∷ []) p (h.1, tt)))
]

pub cuts : (bytes : List ℕ) → Cuts bytes (complete_lines bytes) (rest_from [] bytes)
cuts bytes = record { whole = whole [] bytes; plain_lines = (plain_parts [] bytes tt).0; plain_rest = (plain_parts [] bytes tt).1 }

-- lines that were joined are cut as they were
cut_again : (lines : List (List ℕ)) (rest : List ℕ) → AllByRecursion IsPlain lines → IsPlain rest
    → (complete_lines (flat_map with_feed lines ++ rest) ≡ lines) × (rest_from [] (flat_map with_feed lines ++ rest) ≡ rest)
cut_again [] rest p q = (complete-plain [] rest q, rest-plain [] rest q)
cut_again (line ∷ lines) rest p q =
    let more = cut_again lines rest p.1 q in
    let joined = append_assoc (with_feed line) (flat_map with_feed lines) rest in (
      ap complete_lines joined ∙ complete-append [] (with_feed line) (flat_map with_feed lines ++ rest)
          ∙ ap (λ ls. ls ++ complete_from (rest_from [] (with_feed line)) (flat_map with_feed lines ++ rest)) (complete-line [] line p.0)
          ∙ ap (λ l. line ∷ complete_from l (flat_map with_feed lines ++ rest)) (rest-line [] line) ∙ ap (λ ls. line ∷ ls) more.0,
      ap (rest_from []) joined ∙ rest-append [] (with_feed line) (flat_map with_feed lines ++ rest)
          ∙ ap (λ l. rest_from l (flat_map with_feed lines ++ rest)) (rest-line [] line) ∙ more.1,
    )

pub only : (bytes : List ℕ) (lines : List (List ℕ)) (rest : List ℕ) → Cuts bytes lines rest → (lines ≡ complete_lines bytes) × (rest ≡ rest_from [] bytes)
only bytes lines rest h =
    let again = cut_again lines rest h.plain_lines h.plain_rest in
    (sym again.0 ∙ ap complete_lines (sym h.whole), sym again.1 ∙ ap (rest_from []) (sym h.whole))
