-- How many chunks there are, how long they are, and how many looks a search of them takes.
use Rattle.std.proofs.Common.{◌≡◌, ℕ, suc, ◌+◌, ◌*◌, ◌^◌, ◌≤◌, Bool, true, false, List, [], ◌∷◌, length, if◌then◌else◌, arith}
use Rattle.std.specs.List.{AllByRecursion}
use Rattle.std.proofs.Math.Nat.{mul-le-mul_left}
use Rattle.std.proofs.lemmas.List.{length-append}
use Rattle.adr_model.specs.declared.entry.Entry.{Entry}
use Rattle.adr_index.specs.declared.chunk.EntryChunk.{EntryChunk}
use Rattle.adr_index.specs.declared.query.IndexQuery.{IndexQuery}
use Rattle.adr_index.specs.Chunks.{all_listed, listed, AreChunks}
use Rattle.adr_index.specs.Index.{digits, most_probes}
use Rattle.adr_index.specs.Query.{any_late, hits, looks, reached}

pub chunks_few : (cs : List EntryChunk) → AreChunks cs → length cs ≤ length (all_listed cs)
chunks_few [] h = omega arith
chunks_few (c ∷ cs) h = rw (length-append (listed c) (all_listed cs)) (omega (arith, h.0.some, chunks_few cs h.1))

pub chunks_short : (d : ℕ) (cs : List EntryChunk) → length (all_listed cs) ≤ 2 ^ d → AllByRecursion (λ c. 2 * length (listed c) ≤ 2 ^ (d + 1)) cs
chunks_short d [] h = tt
chunks_short d (c ∷ cs) h =
    let both : length (listed c) + length (all_listed cs) ≤ 2 ^ d = rw (length-append (listed c) (all_listed cs)) at h in
    (twice d (length (listed c)) (omega (arith, both)), chunks_short d cs (omega (arith, both)))
  where
    twice : (d l : ℕ) → l ≤ 2 ^ d → 2 * l ≤ 2 ^ (d + 1)
    twice d l h = let e : d + 1 ≡ suc d = omega arith in rw e (omega (arith, h))

reached_most : (es : List Entry) (q : IndexQuery) → reached es q ≤ length (hits es q) + 1
reached_most es q = either (any_late es q)
  where
    either : (x : Bool) → length (hits es q) + (if x then 1 else 0) ≤ length (hits es q) + 1
    either true = omega arith
    either false = omega arith

paid : (d r m : ℕ) → r ≤ m + 1 → 1 + 2 * (d + (d + 1)) * r ≤ 4 * (d + 1) * (m + 1)
paid d r m h = omega (arith, mul-le-mul_left (4 * d + 2) h)

pub looks_few : (es : List Entry) (q : IndexQuery) → looks (digits (length es) + (digits (length es) + 1)) es q ≤ most_probes es (length (hits es q))
looks_few es q = paid (digits (length es)) (reached es q) (length (hits es q)) (reached_most es q)
