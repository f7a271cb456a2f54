-- The parts of jobs that are shared out are all the jobs.
use Rattle.std.proofs.Common.{◌≡◌, ℕ, ◌+◌, ◌*◌, ◌/◌, ◌-◌, ◌≤◌, ◌<◌, List, [], ◌∷◌, ◌++◌, length, take, drop, refl, sym, ap, subst, ◌∙◌, arith, append-nil}
use Rattle.std.specs.List.{AllZip}
use Rattle.std.proofs.Math.Seq.{take-add}
use Rattle.std.proofs.Math.Nat.{div-mul-le_self}
use Rattle.std.proofs.lemmas.List.Sums.{sum_by-append}
use Rattle.std.proofs.lemmas.Nat.{le-div, div-mul-add}
use Rattle.adr_lines.specs.declared.indexes.Indexes.{Indexes}
use Rattle.adr_group.specs.declared.job.Done.{Done}
use Rattle.adr_group.specs.declared.job.RepairJob.{RepairJob}
use Rattle.adr_group.specs.Jobs.{most_done, AreDone, IsDone}

-- ---- where parts begin and end

-- a front and what stands behind it are a longer front
front_and_part : {X : Type 0} (i j : ℕ) (xs : List X) → i ≤ j → take i xs ++ take (j - i) (drop i xs) ≡ take j xs
front_and_part i j xs le =
    let whole : i + (j - i) ≡ j = omega arith in
    sym (take-add i (j - i) xs) ∙ ap (λ k. take k xs) whole

-- where a later worker's jobs begin is no earlier
pub bound_le : (a b n w : ℕ) → a ≤ b → 0 < w → a * n / w ≤ b * n / w
bound_le a b n w le pos =
    let low : a * n / w * w ≤ a * n = div-mul-le_self (a * n) w in
    let more : a * n ≤ b * n = grind arith in
    le-div (a * n / w) (b * n) w pos (omega arith)

pub bound_last : (n w : ℕ) → 0 < w → w * n / w ≡ n
bound_last n w pos =
    let e : w * n ≡ n * w + 0 = grind arith in
    ap (λ k. k / w) e ∙ div-mul-add n w 0 pos

-- ---- what was done of them

both_done : {X D : Type 0} (R : X → D → Type 0) (xs ys : List X) (us vs : List D) → AllZip R xs us → AllZip R ys vs → AllZip R (xs ++ ys) (us ++ vs)
both_done R [] ys [] vs h k = k
both_done R [] ys (u ∷ us) vs h k = absurd h
both_done R (x ∷ xs) ys [] vs h k = absurd h
both_done R (x ∷ xs) ys (u ∷ us) vs h k = (h.0, both_done R xs ys us vs h.1 k)

-- what the last worker did, behind what the others did
pub shared : (indexes : Indexes) (ours theirs all : List Done) (jobs part : List RepairJob) (i j : ℕ)
    → i ≤ j → all ≡ ours ++ theirs → AreDone indexes (take i jobs) ours → part ≡ take (j - i) (drop i jobs) → AreDone indexes part theirs
    → AreDone indexes (take j jobs) all
shared indexes ours theirs all jobs part i j le is front cut back =
    subst (λ l. AreDone indexes l all) (ap (λ l. take i jobs ++ l) cut ∙ front_and_part i j jobs le)
    (subst (λ l. AreDone indexes (take i jobs ++ part) l) (sym is)
    (record {
      each = both_done (IsDone indexes) (take i jobs) part ours theirs front.each back.each;
      compared =
          let jobs_parts = sum_by-append (most_done indexes) (take i jobs) part in
          let done_parts = sum_by-append (λ (d : Done). d.compared) ours theirs in
          omega (arith, jobs_parts, done_parts, front.compared, back.compared);
    }))

empty : {X : Type 0} (xs : List X) → length xs ≡ 0 → xs ≡ []
empty [] e = refl
empty (x ∷ xs) e = absurd (omega arith)

-- a worker with no jobs adds none
pub none_more : {X : Type 0} (jobs part : List X) (i j : ℕ) → i ≤ j → part ≡ take (j - i) (drop i jobs) → length part ≡ 0 → take i jobs ≡ take j jobs
none_more jobs part i j le cut none =
    sym (append-nil (take i jobs)) ∙ ap (λ l. take i jobs ++ l) (sym (empty part none) ∙ cut) ∙ front_and_part i j jobs le
