-- The shield goes along the pieces of a body.
use Rattle.std.proofs.Common.{◌≡◌, ◌∙◌, ℕ, zero, suc, ◌+◌, ◌<◌, ◌≤◌, ◌==◌, ◌&&◌, ◌||◌, not, Bool, true, false, List, [], ◌∷◌, ◌++◌, length, take, drop, refl, sym, ap, subst, arith, Option, Some, None, if◌then◌else◌, inl, inr, append-nil, append_assoc, length-append, length-drop}
use Rattle.std.proofs.Math.Seq.{take-append_seam, drop-append_seam}
use Rattle.std.proofs.lemmas.List.{take-append-drop}
use Rattle.std.proofs.lemmas.Bool.{cases_Bool}
use Rattle.std.proofs.lemmas.Bool.Decides.{nat_tests, eqb_tells}
use Rattle.std.specs.Prelude.{codes, is_none, nat_eq}
use Rattle.std.specs.List.{list_all, prefix_len, starts_with}
use Rattle.std.specs.Option.{option_map}
use Rattle.adr_value.specs.Body.{Letter, Plain, Escaped, letters_bytes, is_letter, has_nul, Piece, Text, Number, Other, piece_bytes, joined, EndsText, begins, IsPiece, ArePieces, IsCutInto, is_bad, some_bad, shielded_piece, shielded, BodiesAreCut, PiecesAreShielded}
use Rattle.adr_value.specs.Shield.{longer, tells_nul, text_tail, split, names_member, quoted, starts_run, is_run_byte, first, first_text, first_run, shield_by, shield_of}
use Rattle.adr_value.specs.Spelling.{◌>>=◌}
use Rattle.adr_value.specs.Value.{number_of}
use Rattle.adr_value.proofs.PrefixLemmas.{both_true, prefix_len-front}
use Rattle.adr_value.proofs.ShieldLemmas.{shield_by-nil}

pub not_true : (a : Bool) → not a ≡ true → a ≡ false
not_true true e = absurd cc
not_true false e = refl

-- the bytes that end a text begin with no zero, so they add none to the letters before them
abbrev AddsNoZeros : List ℕ → Type 0
AddsNoZeros stop = (xs : List ℕ) → starts_with nat_eq (xs ++ stop) (codes "0000") ≡ starts_with nat_eq xs (codes "0000")

quote-adds_none : (more : List ℕ) → AddsNoZeros (34 ∷ more)
quote-adds_none more [] = refl
quote-adds_none more (a ∷ []) = refl
quote-adds_none more (a ∷ b ∷ []) = refl
quote-adds_none more (a ∷ b ∷ c ∷ []) = refl
quote-adds_none more (a ∷ b ∷ c ∷ d ∷ xs) = refl

backslash-adds_none : AddsNoZeros (92 ∷ [])
backslash-adds_none [] = refl
backslash-adds_none (a ∷ []) = refl
backslash-adds_none (a ∷ b ∷ []) = refl
backslash-adds_none (a ∷ b ∷ c ∷ []) = refl
backslash-adds_none (a ∷ b ∷ c ∷ d ∷ xs) = refl

nothing-adds_none : AddsNoZeros []
nothing-adds_none xs = ap (λ ys. starts_with nat_eq ys (codes "0000")) (append-nil xs)

-- ---- along the letters of a text

tail-plain : (c : ℕ) (xs : List ℕ) → (c == 34) ≡ false → (c == 92) ≡ false → text_tail (c ∷ xs) ≡ longer 1 (text_tail xs)
unfolding text_tail
tail-plain c [] h k = refl
tail-plain c (d ∷ xs) h k = rw (h, k) refl

tail-escaped : (c : ℕ) (xs : List ℕ) → text_tail (92 ∷ c ∷ xs) ≡ (if tells_nul c xs then None else longer 2 (text_tail xs))
unfolding text_tail
tail-escaped c xs = refl

plain-step : (b : Bool) (n k : ℕ) → 1 + n ≡ k → longer 1 (if b then None else Some n) ≡ (if b then None else Some k)
plain-step true n k e = refl
plain-step false n k e = ap Some e

escaped-step : (a b : Bool) (n k : ℕ) → 2 + n ≡ k
    → (if a then None else longer 2 (if b then None else Some n)) ≡ (if a || b then None else Some k)
escaped-step true b n k e = refl
escaped-step false true n k e = refl
escaped-step false false n k e = ap Some e

letters-tail : (stop : List ℕ) (n : ℕ) → text_tail stop ≡ Some n → AddsNoZeros stop → (letters : List Letter) → list_all is_letter letters ≡ true
    → text_tail (letters_bytes letters ++ stop) ≡ (if has_nul letters then None else Some (length (letters_bytes letters) + n))
letters-tail stop n ends none [] h = ends ∙ ap Some (omega arith)
letters-tail stop n ends none (Plain c ∷ letters) h =
    let p = both_true (is_letter (Plain c)) (list_all is_letter letters) h in
    let q = both_true (not (c == 34)) (not (c == 92)) p.0 in
    tail-plain c (letters_bytes letters ++ stop) (not_true (c == 34) q.0) (not_true (c == 92) q.1)
    ∙ ap (longer 1) (letters-tail stop n ends none letters p.1)
    ∙ plain-step (has_nul letters) (length (letters_bytes letters) + n) (suc (length (letters_bytes letters)) + n) (omega arith)
letters-tail stop n ends none (Escaped c ∷ letters) h =
    let same : tells_nul c (letters_bytes letters ++ stop) ≡ tells_nul c (letters_bytes letters) =
    ap (λ b. (c == 117) && b) (none (letters_bytes letters)) in
    tail-escaped c (letters_bytes letters ++ stop)
    ∙ ap (λ b. if b then None else longer 2 (text_tail (letters_bytes letters ++ stop))) same
    ∙ ap (λ o. if tells_nul c (letters_bytes letters) then None else longer 2 o) (letters-tail stop n ends none letters h)
    ∙ escaped-step (tells_nul c (letters_bytes letters)) (has_nul letters) (length (letters_bytes letters) + n) (suc (suc (length (letters_bytes letters))) + n) (omega arith)

tail-quote_first : (more : List ℕ) → text_tail (34 ∷ more) ≡ Some 1
unfolding text_tail
tail-quote_first [] = refl
tail-quote_first (d ∷ more) = refl

tail-nothing : text_tail [] ≡ Some 0
unfolding text_tail
tail-nothing = refl

tail-backslash : text_tail (92 ∷ []) ≡ Some 1
unfolding text_tail
tail-backslash = refl

-- the bytes that end a text are those that its tail counts
ends-tail : (end rest : List ℕ) → EndsText end rest → (text_tail (end ++ rest) ≡ Some (length end)) × AddsNoZeros (end ++ rest)
ends-tail end rest (inl quote) = rw quote (tail-quote_first rest, quote-adds_none rest)
ends-tail end rest (inr (last, inl none)) = rw (none, last) (tail-nothing, nothing-adds_none)
ends-tail end rest (inr (last, inr one)) = rw (one, last) (tail-backslash, backslash-adds_none)

-- ---- the first piece

split-seam : (n : ℕ) (xs ys : List ℕ) → n ≡ length xs → split n (xs ++ ys) ≡ (xs, ys)
split-seam n xs ys e = rw (e, take-append_seam xs ys, drop-append_seam xs ys) refl

chosen-text : (b : Bool) (n : ℕ) (xs ys : List ℕ) → 1 + n ≡ length xs
    → ((if b then None else Some n) >>= (λ n. Some (split (1 + n) (xs ++ ys)))) ≡ (if b then None else Some (xs, ys))
chosen-text true n xs ys e = refl
chosen-text false n xs ys e = ap Some (split-seam (1 + n) xs ys e)

first-quote : (rest : List ℕ) → first (34 ∷ rest) ≡ first_text (34 ∷ rest)
unfolding first
first-quote rest = refl

first-of_text : (letters : List Letter) (end rest : List ℕ) → list_all is_letter letters ≡ true → EndsText end rest
    → first ((34 ∷ letters_bytes letters ++ end) ++ rest) ≡ (if has_nul letters then None else Some (34 ∷ letters_bytes letters ++ end, rest))
first-of_text letters end rest good ends =
    let t = ends-tail end rest ends in
    let text = 34 ∷ letters_bytes letters ++ end in
    let count = length-append (letters_bytes letters) end in
    first-quote ((letters_bytes letters ++ end) ++ rest)
    ∙ ap (λ o. o >>= (λ n. Some (split (1 + n) (text ++ rest))))
    (ap text_tail (append_assoc (letters_bytes letters) end rest) ∙ letters-tail (end ++ rest) (length end) t.0 t.1 letters good)
    ∙ chosen-text (has_nul letters) (length (letters_bytes letters) + length end) text rest (omega (arith, count))

pub starts-no_quote : (c : ℕ) → starts_run c ≡ true → (c == 34) ≡ false
starts-no_quote c e = elim (eqb_tells c 34) [
  | inl q ↦ absurd (let n : starts_run 34 ≡ true = sym (ap starts_run q.1) ∙ e in cc)
  | inr nq ↦ nq.0
]

first-starts : (c : ℕ) (rest : List ℕ) → starts_run c ≡ true → first (c ∷ rest) ≡ first_run (c ∷ rest)
unfolding first
first-starts c rest e = rw (starts-no_quote c e, e) refl

first-of_run : (run rest : List ℕ) → begins starts_run run ≡ true → list_all is_run_byte run ≡ true → begins is_run_byte rest ≡ false
    → first (run ++ rest) ≡ (if is_none (number_of run) || names_member rest then None else Some (quoted run, rest))
first-of_run [] rest starts all stop = absurd cc
first-of_run (c ∷ run) rest starts all stop =
    let text = (c ∷ run) ++ rest in
    first-starts c (run ++ rest) starts
    ∙ ap (λ n. if is_none (number_of (take n text)) || names_member (drop n text) then None else Some (quoted (take n text), drop n text))
    (prefix_len-front is_run_byte (c ∷ run) rest all stop)
    ∙ ap (λ p. if is_none (number_of p.0) || names_member p.1 then None else Some (quoted p.0, p.1)) (split-seam (length (c ∷ run)) (c ∷ run) rest refl)

first-of_other : (c : ℕ) (rest : List ℕ) → (c == 34) ≡ false → starts_run c ≡ false → first (c ∷ rest) ≡ Some (c ∷ [], rest)
unfolding first
first-of_other c rest h k = rw (h, k) refl

first-of_piece : (p : Piece) (rest : List ℕ) → IsPiece p rest
    → first (piece_bytes p ++ rest) ≡ (if is_bad p rest then None else Some (shielded_piece p, rest))
first-of_piece (Text letters end) rest h = first-of_text letters end rest h.0 h.1
first-of_piece (Number run) rest h = first-of_run run rest h.0 h.1 h.2
first-of_piece (Other c) rest h = first-of_other c rest h.0 h.1

pub some-bytes : (p : Piece) (rest : List ℕ) → IsPiece p rest → 0 < length (piece_bytes p)
some-bytes (Text letters end) rest h = omega arith
some-bytes (Number []) rest h = absurd (let e = h.0 in cc)
some-bytes (Number (c ∷ run)) rest h = omega arith
some-bytes (Other c) rest h = omega arith

-- ---- all pieces

shield_by-more : (k : ℕ) (body : List ℕ) → 0 < length body
    → shield_by (suc k) body ≡ (first body >>= (λ p. option_map (λ out. p.0 ++ out) (shield_by k p.1)))
unfolding shield_by
shield_by-more k [] h = absurd (omega arith)
shield_by-more k (c ∷ rest) h = refl

piece-step : (a b : Bool) (front rest back : List ℕ) (f : List ℕ → Option (List ℕ)) → f rest ≡ (if b then None else Some back)
    → ◌>>=◌ {A = List ℕ × List ℕ} (if a then None else Some (front, rest)) (λ p. option_map (λ out. p.0 ++ out) (f p.1))
    ≡ (if a || b then None else Some (front ++ back))
piece-step true b front rest back f e = refl
piece-step false true front rest back f e = ap (option_map (λ out. front ++ out)) e
piece-step false false front rest back f e = ap (option_map (λ out. front ++ out)) e

pieces-by : (k : ℕ) (ps : List Piece) → length (joined ps) ≤ k → ArePieces ps
    → shield_by k (joined ps) ≡ (if some_bad ps then None else Some (shielded ps))
pieces-by k [] room h = shield_by-nil k
pieces-by zero (p ∷ ps) room h =
    let some = some-bytes p (joined ps) h.0 in
    let size = length-append (piece_bytes p) (joined ps) in
    absurd (omega arith)
pieces-by (suc k) (p ∷ ps) room h =
    let some = some-bytes p (joined ps) h.0 in
    let size = length-append (piece_bytes p) (joined ps) in
    shield_by-more k (piece_bytes p ++ joined ps) (omega arith)
    ∙ ap (λ o. o >>= (λ q. option_map (λ out. q.0 ++ out) (shield_by k q.1))) (first-of_piece p (joined ps) h.0)
    ∙ piece-step (is_bad p (joined ps)) (some_bad ps) (shielded_piece p) (joined ps) (shielded ps) (shield_by k) (pieces-by k ps (omega arith) h.1)

pub pieces_are_shielded : PiecesAreShielded
pieces_are_shielded body ps h =
    sym (ap shield_of h.whole) ∙ pieces-by (length (joined ps)) ps (omega arith) h.kinds

-- ---- each body is cut

record TextCut (text : List ℕ) : Type 0 where
  letters : List Letter
  end : List ℕ
  rest : List ℕ
  whole : (letters_bytes letters ++ end) ++ rest ≡ text
  good : list_all is_letter letters ≡ true
  ends : EndsText end rest

text-nothing : TextCut []
text-nothing = record { letters = []; end = []; rest = []; whole = refl; good = refl; ends = inr (refl, inl refl) }

text-quote : (c : ℕ) (rest : List ℕ) → c ≡ 34 → TextCut (c ∷ rest)
text-quote c rest e = record { letters = []; end = 34 ∷ []; rest = rest; whole = ap (λ k. k ∷ rest) (sym e); good = refl; ends = inl refl }

text-backslash : (c : ℕ) → c ≡ 92 → TextCut (c ∷ [])
text-backslash c e = record { letters = []; end = 92 ∷ []; rest = []; whole = ap (λ k. k ∷ []) (sym e); good = refl; ends = inr (refl, inr refl) }

text-escaped : (c d : ℕ) (text : List ℕ) → c ≡ 92 → TextCut text → TextCut (c ∷ d ∷ text)
text-escaped c d text e t = record {
  letters = Escaped d ∷ t.letters;
  end = t.end;
  rest = t.rest;
  whole = ap (λ k. k ∷ d ∷ (letters_bytes t.letters ++ t.end) ++ t.rest) (sym e) ∙ ap (λ xs. c ∷ d ∷ xs) t.whole;
  good = t.good;
  ends = t.ends;
}

text-plain : (c : ℕ) (text : List ℕ) → (c == 34) ≡ false → (c == 92) ≡ false → TextCut text → TextCut (c ∷ text)
text-plain c text h k t = record {
  letters = Plain c ∷ t.letters;
  end = t.end;
  rest = t.rest;
  whole = ap (λ xs. c ∷ xs) t.whole;
  good = rw (h, k) t.good;
  ends = t.ends;
}

text_cut : (text : List ℕ) → TextCut text
text_cut [] = text-nothing
text_cut (c ∷ []) = elim (eqb_tells c 34) [
  | inl q ↦ text-quote c [] q.1
  | inr nq ↦ elim (eqb_tells c 92) [ inl b ↦ text-backslash c b.1 | inr nb ↦ text-plain c [] nq.0 nb.0 text-nothing ]
]
text_cut (c ∷ d ∷ rest) = elim (eqb_tells c 34) [
  | inl q ↦ text-quote c (d ∷ rest) q.1
  | inr nq ↦ elim (eqb_tells c 92) [
    | inl b ↦ text-escaped c d rest b.1 (text_cut rest)
    | inr nb ↦ text-plain c (d ∷ rest) nq.0 nb.0 (text_cut (d ∷ rest))
  ]
]

run-all : (text : List ℕ) → list_all is_run_byte (take (prefix_len is_run_byte text) text) ≡ true
run-all [] = refl
run-all (c ∷ rest) = elim (cases_Bool (is_run_byte c)) [
  | inl run ↦
      let next : 1 + prefix_len is_run_byte rest ≡ suc (prefix_len is_run_byte rest) = omega arith in
      rw (run, next, run) (run-all rest)
  | inr stop ↦ rw stop refl
]

run-stops : (text : List ℕ) → begins is_run_byte (drop (prefix_len is_run_byte text) text) ≡ false
run-stops [] = refl
run-stops (c ∷ rest) = elim (cases_Bool (is_run_byte c)) [
  | inl run ↦
      let next : 1 + prefix_len is_run_byte rest ≡ suc (prefix_len is_run_byte rest) = omega arith in
      rw (run, next) (run-stops rest)
  | inr stop ↦ rw (stop) stop
]

starts-goes_on : (c : ℕ) → starts_run c ≡ true → is_run_byte c ≡ true
starts-goes_on c e = grind (arith, nat_tests)

abbrev Cut : List ℕ → Type 0
Cut body = (pieces : List Piece) × IsCutInto body pieces

cut-text : (c : ℕ) (rest : List ℕ) → c ≡ 34 → (t : TextCut rest) → Cut t.rest → Cut (c ∷ rest)
cut-text c rest e t more = (
  Text t.letters t.end ∷ more.0,
  record {
    whole = ap (λ xs. (34 ∷ letters_bytes t.letters ++ t.end) ++ xs) more.1.whole ∙ ap (λ xs. 34 ∷ xs) t.whole ∙ ap (λ k. k ∷ rest) (sym e);
    kinds = ((t.good, subst (λ xs. EndsText t.end xs) (sym more.1.whole) t.ends), more.1.kinds);
  },
)

cut-other : (c : ℕ) (rest : List ℕ) → (c == 34) ≡ false → starts_run c ≡ false → Cut rest → Cut (c ∷ rest)
cut-other c rest h k more =
    (Other c ∷ more.0, record { whole = ap (λ xs. c ∷ xs) more.1.whole; kinds = ((h, k), more.1.kinds) })

begins-front : (n c : ℕ) (rest : List ℕ) → 0 < n → starts_run c ≡ true → begins starts_run (take n (c ∷ rest)) ≡ true
begins-front zero c rest some e = absurd (omega arith)
begins-front (suc n) c rest some e = e

cut-run : (c : ℕ) (rest : List ℕ) → starts_run c ≡ true → 0 < prefix_len is_run_byte (c ∷ rest)
    → Cut (drop (prefix_len is_run_byte (c ∷ rest)) (c ∷ rest)) → Cut (c ∷ rest)
cut-run c rest e some more =
    let text = c ∷ rest in
    let n = prefix_len is_run_byte text in (
      Number (take n text) ∷ more.0,
      record {
        whole = ap (λ xs. take n text ++ xs) more.1.whole ∙ take-append-drop n text;
        kinds = ((begins-front n c rest some e, run-all text, ap (begins is_run_byte) more.1.whole ∙ run-stops text), more.1.kinds);
      },
    )

run-some : (c : ℕ) (rest : List ℕ) → starts_run c ≡ true → 0 < prefix_len is_run_byte (c ∷ rest)
run-some c rest e = rw (starts-goes_on c e) (omega arith)

cut_by : (k : ℕ) (body : List ℕ) → length body ≤ k → Cut body
cut_by k [] room = ([], record { whole = refl; kinds = tt })
cut_by zero (c ∷ rest) room = absurd (omega arith)
cut_by (suc k) (c ∷ rest) room = elim (eqb_tells c 34) [
  | inl q ↦
      let t = text_cut rest in
      let size = length-append (letters_bytes t.letters ++ t.end) t.rest in
      let whole = ap length t.whole in
      cut-text c rest q.1 t (cut_by k t.rest (omega arith))
  | inr nq ↦ elim (cases_Bool (starts_run c)) [
    | inl run ↦
        let some = run-some c rest run in
        let size = length-drop (prefix_len is_run_byte (c ∷ rest)) (c ∷ rest) in
        cut-run c rest run some (cut_by k (drop (prefix_len is_run_byte (c ∷ rest)) (c ∷ rest)) (omega arith))
    | inr other ↦ cut-other c rest nq.0 other (cut_by k rest (omega arith))
  ]
]

pub bodies_are_cut : BodiesAreCut
bodies_are_cut body = cut_by (length body) body (omega arith)
