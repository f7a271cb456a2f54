-- Entries that are sure of their room, while others come and go.
use Rattle.std.proofs.Common.{◌≡◌, ◌⊎◌, inl, inr, ℕ, zero, suc, ◌+◌, ◌-◌, ◌*◌, ◌<◌, ◌≤◌, List, [], ◌∷◌, length, get_or, set, max, Option, Some, None, IfSome, SomeIff, refl, sym, ap, arith}
use Rattle.std.specs.List.{remove}
use Rattle.std.proofs.lemmas.List.{get_or-set_same, length-set}
use Rattle.std.proofs.lemmas.List.Edits.{length-remove}
use Rattle.std.proofs.lemmas.List.Sums.{sum_by-cons, sum_by-remove, sum_by-set}
use Rattle.adr_index.specs.declared.chunk.EntryChunk.{EntryChunk}
use Rattle.adr_index.specs.Chunks.{crowd, listed, AreChunks}
use Rattle.adr_index.specs.Tables.{ready, IsSure, Spends}

pub sure_spent : (n s : ℕ) (cs pool ds rest : List EntryChunk) → Spends n cs pool ds rest → IsSure s cs pool → n ≤ s → IsSure (s - n) ds rest
sure_spent n s cs pool ds rest spent (inl h) le = inl (omega (arith, h, le, spent.one))
sure_spent n s cs pool ds rest spent (inr h) le = inr (omega (arith, h, le, spent.many))

pub sure_kept : (s : ℕ) (cs pool ds rest : List EntryChunk) → Spends 0 cs pool ds rest → IsSure s cs pool → IsSure s ds rest
sure_kept s cs pool ds rest spent (inl h) = inl (omega (arith, h, spent.one))
sure_kept s cs pool ds rest spent (inr h) = inr (omega (arith, h, spent.many))

ready_set : (k : ℕ) (new : EntryChunk) (cs pool : List EntryChunk) → ready (set cs k new) pool ≡ ready cs pool
ready_set k new [] pool = refl
ready_set zero new (c ∷ cs) pool = refl
ready_set (suc k) new (c ∷ cs) pool = refl

-- a chunk has more entries than before, at most so many
pub put_spends : (n : ℕ) (cs : List EntryChunk) (k : ℕ) (c new : EntryChunk) (pool : List EntryChunk) → k < length cs → c ≡ get_or cs k c → length (listed new) ≤ length (listed c) + n → Spends n cs pool (set cs k new) pool
put_spends n cs k c new pool inside read more =
    let same = ready_set k new cs pool in
    let long = length-set cs k new in
    let here : length (listed (get_or cs k c)) ≡ length (listed c) = ap (λ (d : EntryChunk). length (listed d)) (sym read) in
    let all = sum_by-set (λ (d : EntryChunk). length (listed d) - 32) cs k new c inside in
    record { sum = omega (arith, long); one = omega (arith, same); many = omega (arith, same, all, here, more) }

ready_least : (cs pool : List EntryChunk) → length pool ≤ ready cs pool + 1
ready_least [] pool = omega arith
ready_least (c ∷ cs) pool = omega arith

ready_most : (cs pool : List EntryChunk) → ready cs pool ≤ length pool
ready_most [] pool = omega arith
ready_most (c ∷ cs) pool = omega arith

-- a chunk goes to the pool
pub gone_spends : (cs : List EntryChunk) (k : ℕ) (new : EntryChunk) (pool rest : List EntryChunk) → k < length cs → length rest ≡ length pool + 1 → Spends 0 cs pool (remove (set cs k new) k) rest
gone_spends cs k new pool rest inside more =
    let long = length-set cs k new in
    let fewer = length-remove (set cs k new) k (omega (arith, inside, long)) in
    let here : length (listed (get_or (set cs k new) k new)) ≡ length (listed new) = ap (λ (d : EntryChunk). length (listed d)) (get_or-set_same cs k new new inside) in
    let left = sum_by-remove (λ (d : EntryChunk). length (listed d) - 32) (set cs k new) k new (omega (arith, inside, long)) in
    let all = sum_by-set (λ (d : EntryChunk). length (listed d) - 32) cs k new new inside in
    let least = ready_least (remove (set cs k new) k) rest in
    let most = ready_most cs pool in
    record { sum = omega (arith, long, fewer, more); one = omega (arith, least, most, more); many = omega (arith, least, most, more, here, left, all) }

-- ---- how many chunks are enough

crowd_most : (cs : List EntryChunk) → AreChunks cs → crowd cs ≤ 32 * length cs
crowd_most [] h = let none : crowd [] ≡ 0 = refl in omega (arith, none)
crowd_most (c ∷ cs) h =
    let rest = crowd_most cs h.1 in
    let all = sum_by-cons (λ (x : EntryChunk). length (listed x) - 32) c cs in
    omega (arith, rest, all, h.0.few)

sure_of : (more wanted : ℕ) (cs pool : List EntryChunk) → AreChunks cs → (wanted ≡ more) ⊎ (more + 32 * length cs ≤ 32 * wanted) → wanted + 1 ≤ length pool → IsSure more cs pool
sure_of more wanted cs pool h (inl w) le = let least = ready_least cs pool in inl (omega (arith, w, le, least))
sure_of more wanted cs pool h (inr w) le = let least = ready_least cs pool in let most = crowd_most cs h in inr (omega (arith, w, le, least, most))

pub sure_places : (more wanted old : ℕ) (cs : List EntryChunk) (r : Option ℕ) (P : Type 0) → AreChunks cs → (wanted ≡ more) ⊎ (more + 32 * length cs ≤ 32 * wanted) → SomeIff r P (length cs + max (wanted + 1) old)
    → IfSome r (λ places. (pool : List EntryChunk) → places ≤ length cs + length pool → IsSure more cs pool)
sure_places more wanted old cs None P h w i = tt
sure_places more wanted old cs (Some places) P h w i = λ pool le. sure_of more wanted cs pool h w (omega (arith, i.1, le))
