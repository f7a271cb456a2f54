-- Numbers in chunks, as they are read, written and shared.
use Rattle.std.proofs.Common.{◌≡◌, ℕ, ◌<◌, ◌≤◌, ◌+◌, ◌-◌, ◌*◌, ◌++◌, [], ◌∷◌, true, false, Bool, List, length, get_or, set, zero, suc, refl, ap, sym, ◌∙◌, arith, length-append}
use Rattle.std.proofs.lemmas.List.{append-nil, append_assoc, set-append_left, set-append_right}
use Rattle.std.specs.List.{slice_get}
use Rattle.std.proofs.lemmas.Bool.{false≢true}
use Rattle.adr_seats.specs.Table.{joined, AreFull, may_write}

-- reading before and after the seam of two lists
get-left : (xs ys : List ℕ) (i : ℕ) → i < length xs → slice_get (xs ++ ys) i ≡ slice_get xs i
get-left [] ys i l = absurd (omega arith)
get-left (x ∷ xs) ys zero l = refl
get-left (x ∷ xs) ys (suc i) l = get-left xs ys i (omega arith)

pub get-right : (xs ys : List ℕ) (k i : ℕ) → k ≡ length xs + i → slice_get (xs ++ ys) k ≡ slice_get ys i
get-right [] ys k i e = let same : k ≡ i = omega (arith, e) in ap (λ j. slice_get ys j) same
get-right (x ∷ xs) ys zero i e = absurd (omega (arith, e))
get-right (x ∷ xs) ys (suc k) i e = get-right xs ys k i (omega (arith, e))

-- how many numbers full chunks have
pub joined-length : (cs : List (Bool × List ℕ)) → AreFull cs → length (joined cs) ≡ length cs * 512
joined-length [] f = omega arith
joined-length (c ∷ cs) f = omega (arith, length-append c.1 (joined cs), f.0, joined-length cs f.1)

-- a full chunk has its width
pub full-get : (cs : List (Bool × List ℕ)) (q : ℕ) (c : Bool × List ℕ) → AreFull cs → q < length cs → c ≡ get_or cs q c → length c.1 ≡ 512
full-get [] q c f l g = absurd (omega arith)
full-get (d ∷ ds) zero c f l g = ap (λ x. length x.1) g ∙ f.0
full-get (d ∷ ds) (suc q) c f l g = full-get ds q c f.1 (omega arith) g

-- the number at a place of a full chunk
pub read-full : (cs : List (Bool × List ℕ)) (last : List ℕ) (q r k : ℕ) (c : Bool × List ℕ) → AreFull cs → q < length cs → r < 512 → k ≡ q * 512 + r
    → c ≡ get_or cs q c → slice_get (joined cs ++ last) k ≡ slice_get c.1 r
read-full [] last q r k c f l b e g = absurd (omega arith)
read-full (d ∷ ds) last zero r k c f l b e g =
    let same : k ≡ r = omega (arith, e) in
    ap (λ xs. slice_get xs k) (append_assoc d.1 (joined ds) last) ∙ get-left d.1 (joined ds ++ last) k (omega (arith, f.0, b, same))
    ∙ ap (λ j. slice_get d.1 j) same ∙ ap (λ x. slice_get x.1 r) (sym g)
read-full (d ∷ ds) last (suc q) r k c f l b e g =
    ap (λ xs. slice_get xs k) (append_assoc d.1 (joined ds) last) ∙ get-right d.1 (joined ds ++ last) k (q * 512 + r) (omega (arith, f.0, e))
    ∙ read-full ds last q r (q * 512 + r) c f.1 (omega arith) b refl g

-- a number is written in a full chunk
write-full : (cs : List (Bool × List ℕ)) (q r k v : ℕ) (b : Bool) (c : Bool × List ℕ) → AreFull cs → q < length cs → r < 512 → k ≡ q * 512 + r
    → c ≡ get_or cs q c → joined (set cs q (b, set c.1 r v)) ≡ set (joined cs) k v
write-full [] q r k v b c f l w e g = absurd (omega arith)
write-full (d ∷ ds) zero r k v b c f l w e g =
    let same : r ≡ k = omega (arith, e) in
    ap (λ x. set x.1 r v ++ joined ds) g ∙ ap (λ i. set d.1 i v ++ joined ds) same ∙ sym (set-append_left d.1 (joined ds) k v (omega (arith, f.0, w, same)))
write-full (d ∷ ds) (suc q) r k v b c f l w e g =
    ap (λ xs. d.1 ++ xs) (write-full ds q r (k - 512) v b c f.1 (omega arith) w (omega (arith, e)) g)
    ∙ sym (set-append_right d.1 (joined ds) 512 k v f.0 (omega (arith, e)))

pub written : (cs : List (Bool × List ℕ)) (last : List ℕ) (q r k v : ℕ) (c : Bool × List ℕ) → AreFull cs → q < length cs → r < 512 → k ≡ q * 512 + r
    → c ≡ get_or cs q c → joined (set cs q (true, set c.1 r v)) ++ last ≡ set (joined cs ++ last) k v
written cs last q r k v c f l w e g =
    ap (λ xs. xs ++ last) (write-full cs q r k v true c f l w e g)
    ∙ sym (set-append_left (joined cs) last k v (omega (arith, joined-length cs f, l, w, e)))

-- full chunks stay so
pub full-set : (cs : List (Bool × List ℕ)) (q : ℕ) (b : Bool) (xs : List ℕ) → AreFull cs → length xs ≡ 512 → AreFull (set cs q (b, xs))
full-set [] q b xs f l = tt
full-set (c ∷ cs) zero b xs f l = (l, f.1)
full-set (c ∷ cs) (suc q) b xs f l = (f.0, full-set cs q b xs f.1 l)

pub full-last : (cs : List (Bool × List ℕ)) (b : Bool) (xs : List ℕ) → AreFull cs → length xs ≡ 512 → AreFull (cs ++ (b, xs) ∷ [])
full-last [] b xs f l = (l, tt)
full-last (c ∷ cs) b xs f l = (f.0, full-last cs b xs f.1 l)

-- one chunk more
pub joined-last : (cs : List (Bool × List ℕ)) (b : Bool) (xs : List ℕ) → joined (cs ++ (b, xs) ∷ []) ≡ joined cs ++ xs
joined-last [] b xs = append-nil xs
joined-last (c ∷ cs) b xs = ap (λ ys. c.1 ++ ys) (joined-last cs b xs) ∙ sym (append_assoc c.1 (joined cs) xs)

-- a chunk that is written to is the same before
pub joined-own : (cs : List (Bool × List ℕ)) (q : ℕ) (b : Bool) (c : Bool × List ℕ) → c ≡ get_or cs q c → joined (set cs q (b, c.1)) ≡ joined cs
joined-own [] q b c g = refl
joined-own (d ∷ ds) zero b c g = ap (λ x. x.1 ++ joined ds) g
joined-own (d ∷ ds) (suc q) b c g = ap (λ xs. d.1 ++ xs) (joined-own ds q b c g)

-- which chunks may be written
pub may-self : (cs : List (Bool × List ℕ)) (q : ℕ) (xs : List ℕ) → may_write (set cs q (true, xs)) q ≡ true
may-self [] q xs = refl
may-self (c ∷ cs) zero xs = refl
may-self (c ∷ cs) (suc q) xs = may-self cs q xs

pub may-keep : (cs : List (Bool × List ℕ)) (q k : ℕ) (xs : List ℕ) → may_write cs k ≡ true → may_write (set cs q (true, xs)) k ≡ true
may-keep [] q k xs h = refl
may-keep (c ∷ cs) zero zero xs h = refl
may-keep (c ∷ cs) zero (suc k) xs h = h
may-keep (c ∷ cs) (suc q) zero xs h = h
may-keep (c ∷ cs) (suc q) (suc k) xs h = may-keep cs q k xs h

pub may-past : (cs : List (Bool × List ℕ)) (k : ℕ) → length cs ≤ k → may_write cs k ≡ true
may-past [] k l = refl
may-past (c ∷ cs) zero l = absurd (omega arith)
may-past (c ∷ cs) (suc k) l = may-past cs k (omega arith)

pub may-get : (cs : List (Bool × List ℕ)) (k : ℕ) (c : Bool × List ℕ) → k < length cs → c ≡ get_or cs k c → may_write cs k ≡ c.0
may-get [] k c l g = absurd (omega arith)
may-get (d ∷ ds) zero c l g = ap (λ x. x.0) (sym g)
may-get (d ∷ ds) (suc k) c l g = may-get ds k c (omega arith) g

-- a chunk that may not be written is one of the full ones
pub within-unless : (cs : List (Bool × List ℕ)) (k : ℕ) → may_write cs k ≡ false → k < length cs
within-unless [] k h = absurd (false≢true (sym h))
within-unless (c ∷ cs) zero h = omega arith
within-unless (c ∷ cs) (suc k) h = let l = within-unless cs k h in omega arith
