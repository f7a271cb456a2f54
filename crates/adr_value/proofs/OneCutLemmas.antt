-- A body is a sequence of pieces in one way only.
use Rattle.std.proofs.Common.{◌≡◌, ◌∙◌, ℕ, ◌==◌, not, true, false, List, [], ◌∷◌, ◌++◌, length, take, drop, get_or, refl, sym, ap, arith, if◌then◌else◌, inl, inr, length-append}
use Rattle.std.proofs.Math.Seq.{take-append_seam, drop-append_seam}
use Rattle.std.specs.List.{list_all, prefix_len}
use Rattle.adr_value.specs.Body.{Letter, Plain, Escaped, letter_bytes, letters_bytes, is_letter, Piece, Text, Number, Other, piece_bytes, joined, EndsText, begins, IsPiece, ArePieces, CutsAreOne}
use Rattle.adr_value.specs.Shield.{starts_run, is_run_byte}
use Rattle.adr_value.proofs.BodyLemmas.{not_true, some-bytes, starts-no_quote}
use Rattle.adr_value.proofs.PrefixLemmas.{both_true, prefix_len-front}

same_head : (c d : ℕ) (xs ys : List ℕ) → c ∷ xs ≡ d ∷ ys → c ≡ d
same_head c d xs ys e = ap (λ l. get_or l 0 0) e

same_tail : (c d : ℕ) (xs ys : List ℕ) → c ∷ xs ≡ d ∷ ys → xs ≡ ys
same_tail c d xs ys e = ap (drop 1) e

no_head : (c : ℕ) (xs : List ℕ) → c ∷ xs ≡ [] → ⊥
no_head c xs e = absurd (omega (arith, ap length e))

-- ---- the letters of a text

letter-not : (c : ℕ) → is_letter (Plain c) ≡ true → (c ≡ 34 → ⊥) × (c ≡ 92 → ⊥)
letter-not c h =
    let p = both_true (not (c == 34)) (not (c == 92)) h in (
      λ e. let t : (34 == 34) ≡ false = sym (ap (λ k. k == 34) e) ∙ not_true (c == 34) p.0 in cc,
      λ e. let t : (92 == 92) ≡ false = sym (ap (λ k. k == 92) e) ∙ not_true (c == 92) p.1 in cc,
    )

one_letter : (l m : Letter) (xs ys : List ℕ) → is_letter l ≡ true → is_letter m ≡ true → letter_bytes l ++ xs ≡ letter_bytes m ++ ys → (l ≡ m) × (xs ≡ ys)
one_letter (Plain c) (Plain d) xs ys h k e = (ap Plain (same_head c d xs ys e), same_tail c d xs ys e)
one_letter (Plain c) (Escaped d) xs ys h k e = absurd ((letter-not c h).1 (same_head c 92 xs (d ∷ ys) e))
one_letter (Escaped c) (Plain d) xs ys h k e = absurd ((letter-not d k).1 (sym (same_head 92 d (c ∷ xs) ys e)))
one_letter (Escaped c) (Escaped d) xs ys h k e =
    let rest = same_tail 92 92 (c ∷ xs) (d ∷ ys) e in
    (ap Escaped (same_head c d xs ys rest), same_tail c d xs ys rest)

-- what ends a text is no letter
no_letter : (end rest : List ℕ) (l : Letter) (more : List ℕ) → EndsText end rest → is_letter l ≡ true → end ++ rest ≡ letter_bytes l ++ more → ⊥
no_letter end rest (Plain c) more (inl quote) h e =
    (letter-not c h).0 (sym (same_head 34 c rest more (ap (λ xs. xs ++ rest) (sym quote) ∙ e)))
no_letter end rest (Plain c) more (inr (last, inl none)) h e =
    no_head c more (sym (ap (λ xs. xs ++ []) (sym none) ∙ ap (λ xs. end ++ xs) (sym last) ∙ e))
no_letter end rest (Plain c) more (inr (last, inr one)) h e =
    (letter-not c h).1 (sym (same_head 92 c rest more (ap (λ xs. xs ++ rest) (sym one) ∙ e)))
no_letter end rest (Escaped c) more (inl quote) h e =
    let t = same_head 34 92 rest (c ∷ more) (ap (λ xs. xs ++ rest) (sym quote) ∙ e) in absurd (omega (arith, t))
no_letter end rest (Escaped c) more (inr (last, inl none)) h e =
    no_head 92 (c ∷ more) (sym (ap (λ xs. xs ++ []) (sym none) ∙ ap (λ xs. end ++ xs) (sym last) ∙ e))
no_letter end rest (Escaped c) more (inr (last, inr one)) h e =
    no_head c more (sym (sym last ∙ same_tail 92 92 rest (c ∷ more) (ap (λ xs. xs ++ rest) (sym one) ∙ e)))

one_end : (end stop xs ys : List ℕ) → EndsText end xs → EndsText stop ys → end ++ xs ≡ stop ++ ys → (end ≡ stop) × (xs ≡ ys)
one_end end stop xs ys (inl a) (inl b) e =
    (a ∙ sym b, same_tail 34 34 xs ys (ap (λ l. l ++ xs) (sym a) ∙ e ∙ ap (λ l. l ++ ys) b))
one_end end stop xs ys (inl a) (inr (last, inl b)) e =
    absurd (no_head 34 xs (ap (λ l. l ++ xs) (sym a) ∙ e ∙ ap (λ l. l ++ ys) b ∙ last))
one_end end stop xs ys (inl a) (inr (last, inr b)) e =
    let t = same_head 34 92 xs ys (ap (λ l. l ++ xs) (sym a) ∙ e ∙ ap (λ l. l ++ ys) b) in absurd (omega (arith, t))
one_end end stop xs ys (inr (nil, inl a)) (inl b) e =
    absurd (no_head 34 ys (sym (ap (λ l. l ++ ys) b) ∙ sym e ∙ ap (λ l. l ++ xs) a ∙ nil))
one_end end stop xs ys (inr (nil, inr a)) (inl b) e =
    let t = same_head 92 34 xs ys (ap (λ l. l ++ xs) (sym a) ∙ e ∙ ap (λ l. l ++ ys) b) in absurd (omega (arith, t))
one_end end stop xs ys (inr (nil, inl a)) (inr (last, inl b)) e = (a ∙ sym b, nil ∙ sym last)
one_end end stop xs ys (inr (nil, inr a)) (inr (last, inr b)) e = (a ∙ sym b, nil ∙ sym last)
one_end end stop xs ys (inr (nil, inl a)) (inr (last, inr b)) e =
    absurd (no_head 92 ys (sym (ap (λ l. l ++ ys) b) ∙ sym e ∙ ap (λ l. l ++ xs) a ∙ nil))
one_end end stop xs ys (inr (nil, inr a)) (inr (last, inl b)) e =
    absurd (no_head 92 xs (ap (λ l. l ++ xs) (sym a) ∙ e ∙ ap (λ l. l ++ ys) b ∙ last))

-- the bytes of a letter, before those that follow
joint : (l : Letter) (front end rest : List ℕ) → ((letter_bytes l ++ front) ++ end) ++ rest ≡ letter_bytes l ++ ((front ++ end) ++ rest)
joint (Plain c) front end rest = refl
joint (Escaped c) front end rest = refl

one_text : (ls ms : List Letter) (end stop xs ys : List ℕ) → list_all is_letter ls ≡ true → list_all is_letter ms ≡ true → EndsText end xs → EndsText stop ys
    → (letters_bytes ls ++ end) ++ xs ≡ (letters_bytes ms ++ stop) ++ ys → (ls ≡ ms) × (end ≡ stop) × (xs ≡ ys)
one_text [] [] end stop xs ys h k a b e =
    let p = one_end end stop xs ys a b e in
    (refl, p.0, p.1)
one_text [] (m ∷ ms) end stop xs ys h k a b e =
    let p = both_true (is_letter m) (list_all is_letter ms) k in
    absurd (no_letter end xs m ((letters_bytes ms ++ stop) ++ ys) a p.0 (e ∙ joint m (letters_bytes ms) stop ys))
one_text (l ∷ ls) [] end stop xs ys h k a b e =
    let p = both_true (is_letter l) (list_all is_letter ls) h in
    absurd (no_letter stop ys l ((letters_bytes ls ++ end) ++ xs) b p.0 (sym e ∙ joint l (letters_bytes ls) end xs))
one_text (l ∷ ls) (m ∷ ms) end stop xs ys h k a b e =
    let p = both_true (is_letter l) (list_all is_letter ls) h in
    let q = both_true (is_letter m) (list_all is_letter ms) k in
    let first = one_letter l m ((letters_bytes ls ++ end) ++ xs) ((letters_bytes ms ++ stop) ++ ys) p.0 q.0
    (sym (joint l (letters_bytes ls) end xs) ∙ e ∙ joint m (letters_bytes ms) stop ys) in
    let rest = one_text ls ms end stop xs ys p.1 q.1 a b first.1 in
    (ap (λ x. x ∷ ls) first.0 ∙ ap (λ x. m ∷ x) rest.0, rest.1, rest.2)

-- ---- a piece

one_run : (run other xs ys : List ℕ) → list_all is_run_byte run ≡ true → list_all is_run_byte other ≡ true → begins is_run_byte xs ≡ false → begins is_run_byte ys ≡ false
    → run ++ xs ≡ other ++ ys → (run ≡ other) × (xs ≡ ys)
one_run run other xs ys h k a b e =
    let size : length run ≡ length other =
    sym (prefix_len-front is_run_byte run xs h a) ∙ ap (prefix_len is_run_byte) e ∙ prefix_len-front is_run_byte other ys k b in (
      sym (take-append_seam run xs) ∙ ap (λ n. take n (run ++ xs)) size ∙ ap (take (length other)) e ∙ take-append_seam other ys,
      sym (drop-append_seam run xs) ∙ ap (λ n. drop n (run ++ xs)) size ∙ ap (drop (length other)) e ∙ drop-append_seam other ys,
    )

-- which kind of piece a byte begins: a text, a number or another
abbrev kind : List ℕ → ℕ
kind [] = 3
kind (c ∷ rest) = if c == 34 then 2 else (if starts_run c then 1 else 0)

abbrev kind_of : Piece → ℕ
kind_of (Text letters end) = 2
kind_of (Number run) = 1
kind_of (Other c) = 0

kind-piece : (p : Piece) (rest : List ℕ) → IsPiece p rest → kind (piece_bytes p ++ rest) ≡ kind_of p
kind-piece (Text letters end) rest h = refl
kind-piece (Number []) rest h = absurd (let e = h.0 in cc)
kind-piece (Number (c ∷ run)) rest h = rw (starts-no_quote c h.0, h.0) refl
kind-piece (Other c) rest h = rw (h.0, h.1) refl

same_kind : (p q : Piece) (xs ys : List ℕ) → IsPiece p xs → IsPiece q ys → piece_bytes p ++ xs ≡ piece_bytes q ++ ys → kind_of p ≡ kind_of q
same_kind p q xs ys h k e = sym (kind-piece p xs h) ∙ ap kind e ∙ kind-piece q ys k

one_piece : (p q : Piece) (xs ys : List ℕ) → IsPiece p xs → IsPiece q ys → piece_bytes p ++ xs ≡ piece_bytes q ++ ys → kind_of p ≡ kind_of q
    → (p ≡ q) × (xs ≡ ys)
one_piece (Text ls end) (Text ms stop) xs ys h k e same =
    let t = one_text ls ms end stop xs ys h.0 k.0 h.1 k.1 (same_tail 34 34 ((letters_bytes ls ++ end) ++ xs) ((letters_bytes ms ++ stop) ++ ys) e) in
    (ap (λ x. Text x end) t.0 ∙ ap (λ x. Text ms x) t.1, t.2)
one_piece (Text ls end) (Number run) xs ys h k e same = absurd (omega (arith, same))
one_piece (Text ls end) (Other c) xs ys h k e same = absurd (omega (arith, same))
one_piece (Number run) (Text ms stop) xs ys h k e same = absurd (omega (arith, same))
one_piece (Number run) (Number other) xs ys h k e same =
    let t = one_run run other xs ys h.1 k.1 h.2 k.2 e in
    (ap Number t.0, t.1)
one_piece (Number run) (Other c) xs ys h k e same = absurd (omega (arith, same))
one_piece (Other c) (Text ms stop) xs ys h k e same = absurd (omega (arith, same))
one_piece (Other c) (Number run) xs ys h k e same = absurd (omega (arith, same))
one_piece (Other c) (Other d) xs ys h k e same = (ap Other (same_head c d xs ys e), same_tail c d xs ys e)

-- ---- all pieces

nothing_joined : (p : Piece) (ps : List Piece) → IsPiece p (joined ps) → joined (p ∷ ps) ≡ [] → ⊥
nothing_joined p ps h e =
    let some = some-bytes p (joined ps) h in
    let size = length-append (piece_bytes p) (joined ps) in
    let none = ap length e in
    absurd (omega arith)

one_cut : (ps qs : List Piece) → ArePieces ps → ArePieces qs → joined ps ≡ joined qs → ps ≡ qs
one_cut [] [] h k e = refl
one_cut [] (q ∷ qs) h k e = absurd (nothing_joined q qs k.0 (sym e))
one_cut (p ∷ ps) [] h k e = absurd (nothing_joined p ps h.0 e)
one_cut (p ∷ ps) (q ∷ qs) h k e =
    let first = one_piece p q (joined ps) (joined qs) h.0 k.0 e (same_kind p q (joined ps) (joined qs) h.0 k.0 e) in
    let rest = one_cut ps qs h.1 k.1 first.1 in
    ap (λ x. x ∷ ps) first.0 ∙ ap (λ x. q ∷ x) rest

pub cuts_are_one : CutsAreOne
cuts_are_one body ps qs h k = one_cut ps qs h.kinds k.kinds (h.whole ∙ sym k.whole)
