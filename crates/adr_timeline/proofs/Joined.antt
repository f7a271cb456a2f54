-- A piece put at the end of a list of segments.
use Rattle.std.proofs.Common.{◌≡◌, ℕ, zero, suc, ◌+◌, ◌<◌, true, false, List, [], ◌∷◌, ◌++◌, length, get_or, set, refl, sym, ap, arith, subst}
use Rattle.std.proofs.lemmas.List.{get_or_read}
use Rattle.adr_model.specs.declared.timeline.Segment.{Segment}
use Rattle.adr_timeline.specs.Parts.{joined, leads_to}

-- where the last segment leads to the piece, that segment ends later
pub joined_set : (ss : List Segment) (i : ℕ) (d p : Segment) → i + 1 ≡ length ss → leads_to (get_or ss i d) p ≡ true → set ss i (record (get_or ss i d) { end = p.end }) ≡ joined ss p
joined_set [] i d p e h = absurd (omega arith)
joined_set (s ∷ []) zero d p e h = rw h
joined_set (s ∷ []) (suc i) d p e h = absurd (omega arith)
joined_set (s ∷ (r ∷ rs)) zero d p e h = absurd (omega arith)
joined_set (s ∷ (r ∷ rs)) (suc i) d p e h = ap (λ xs. s ∷ xs) (joined_set (r ∷ rs) i d p (omega arith) h)

-- where it does not, the piece is a segment of its own
pub joined_push : (ss : List Segment) (i : ℕ) (d p : Segment) → i + 1 ≡ length ss → leads_to (get_or ss i d) p ≡ false → ss ++ p ∷ [] ≡ joined ss p
joined_push [] i d p e h = absurd (omega arith)
joined_push (s ∷ []) zero d p e h = rw h
joined_push (s ∷ []) (suc i) d p e h = absurd (omega arith)
joined_push (s ∷ (r ∷ rs)) zero d p e h = absurd (omega arith)
joined_push (s ∷ (r ∷ rs)) (suc i) d p e h = ap (λ xs. s ∷ xs) (joined_push (r ∷ rs) i d p (omega arith) h)

-- the same, of an element that was read
pub joined_grown : (ss : List Segment) (i : ℕ) (x y p : Segment) → i + 1 ≡ length ss → x ≡ get_or ss i x → y ≡ get_or ss i y → leads_to x p ≡ true → set ss i (record { start = y.start; end = p.end; winner = y.winner }) ≡ joined ss p
joined_grown ss i x y p n a b h =
    let lt : i < length ss = omega arith in
    let same : x ≡ get_or ss i y = get_or_read ss i x lt a y in
    subst (λ (z : Segment). set ss i (record { start = z.start; end = p.end; winner = z.winner }) ≡ joined ss p) (sym b) (joined_set ss i y p n (subst (λ (z : Segment). leads_to z p ≡ true) same h))

pub joined_pushed : (ss : List Segment) (i : ℕ) (x p : Segment) → i + 1 ≡ length ss → x ≡ get_or ss i x → leads_to x p ≡ false → ss ++ p ∷ [] ≡ joined ss p
joined_pushed ss i x p n a h = joined_push ss i x p n (subst (λ (z : Segment). leads_to z p ≡ false) a h)

pub joined_first : (ss : List Segment) (p : Segment) → length ss ≡ 0 → ss ++ p ∷ [] ≡ joined ss p
joined_first [] p h = refl
joined_first (s ∷ ss) p h = absurd (omega arith)
