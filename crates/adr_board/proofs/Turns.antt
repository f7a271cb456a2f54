-- The steps on the history keep its rule.
use Rattle.std.proofs.Common.{◌≡◌, ◌≢◌, ℕ, zero, suc, ◌+◌, ◌*◌, ◌<◌, ◌≤◌, ◌==◌, Bool, true, false, List, [], ◌∷◌, ◌++◌, length, slice_set, refl, ap, sym, subst, arith, inl, inr, length-append, None}
use Rattle.std.proofs.lemmas.List.{append-nil}
use Rattle.std.proofs.lemmas.Bool.Decides.{nat_tests}
use mathlib.Core.List.{IsPrefix}
use prog.Atomic.{either}
use Rattle.logbook.specs.Pages.{Cell, cell, keeps, adds, gives, no_nib, nib, may_write, step, Moves, Goes, Away}
use Rattle.adr_board.specs.declared.diary.DiaryEntry.{DiaryEntry}
use Rattle.adr_board.specs.History.{IsKept, closed_cells, Begins, Ends}
use Rattle.adr_board.proofs.Prefixes.{prefix_whole}

abbrev pub hidden : List DiaryEntry → List DiaryEntry
hidden log = []

abbrev pub moved : List DiaryEntry → List DiaryEntry → ℕ → Type 0
moved xs ys n = Unit {0}

closed_length : (k : ℕ) → length (closed_cells k) ≡ k
closed_length zero = refl
closed_length (suc k) = ap suc (closed_length k)

-- nothing changes where another count was found
stays : (cells : List Cell) (log v : List DiaryEntry) (e : DiaryEntry) (old n : ℕ) → (n == old) ≡ false → IsKept ((n, true) ∷ cells) log
    → Goes IsKept hidden moved 0 (v, (no_nib, None)) (λ n. either (n == old) (old + 1) n) (Begins (step 0 old (old + 1) e) (v, (no_nib, None))) ((n, true) ∷ cells) log
stays cells log v e old n is kept =
    let other : n ≢ old = grind (arith, nat_tests) in (
      keeps,
      [],
      None,
      tt,
      rw (is, append-nil log) kept,
      inl (refl, refl),
      (λ same. absurd (other same)),
    )

begins_ended : (k : ℕ) (log v : List DiaryEntry) (e : DiaryEntry) (old : ℕ) → length v ≡ old → length log ≡ 2 * k → IsPrefix v log → (b : Bool) → (2 * k == old) ≡ b
    → Goes IsKept hidden moved 0 (v, (no_nib, None)) (λ n. either (n == old) (old + 1) n) (Begins (step 0 old (old + 1) e) (v, (no_nib, None))) ((2 * k, true) ∷ closed_cells (suc k)) log
begins_ended k log v e old len long pre true is =
    let here : 2 * k ≡ old = grind (arith, nat_tests) in
    let same : v ≡ log = prefix_whole v log pre (omega arith) in
    let longer : length (log ++ e ∷ []) ≡ 2 * k + 1 = omega (arith, length-append log (e ∷ [])) in (
      adds,
      e ∷ [],
      None,
      tt,
      rw is (inr (k, longer, ap (λ (n : ℕ). (n + 1, true) ∷ (closed_cells (suc k) ++ (0, false) ∷ [])) (sym here))),
      inl (refl, refl),
      (λ _. (ap (λ (w : List DiaryEntry). w ++ e ∷ []) (sym same), refl, omega (arith, longer, closed_length k))),
    )
begins_ended k log v e old len long pre false is = stays (closed_cells (suc k)) log v e old (2 * k) is (inl (k, long, refl))

pub begins : (v : List DiaryEntry) (e : DiaryEntry) (old m : ℕ) → length v ≡ old → old ≡ 2 * m
    → Moves IsKept hidden moved 0 (v, (no_nib, None)) (λ n. either (n == old) (old + 1) n) (Begins (step 0 old (old + 1) e) (v, (no_nib, None)))
begins v e old m len even cs log (inl t) pre away =
    let P : List Cell → Type 0 = λ c. (0 < length c) × ((cell c 0).1 ≡ true) × Goes IsKept hidden moved 0 (v, (no_nib, None)) (λ n. either (n == old) (old + 1) n) (Begins (step 0 old (old + 1) e) (v, (no_nib, None))) c log in
    subst P (sym t.2) (omega arith, refl, begins_ended t.0 log v e old len t.1 pre (2 * t.0 == old) refl)
begins v e old m len even cs log (inr t) pre away =
    let P : List Cell → Type 0 = λ c. (0 < length c) × ((cell c 0).1 ≡ true) × Goes IsKept hidden moved 0 (v, (no_nib, None)) (λ n. either (n == old) (old + 1) n) (Begins (step 0 old (old + 1) e) (v, (no_nib, None))) c log in
    let odd : 2 * t.0 + 1 ≢ old = λ s. omega arith in
    let is : (2 * t.0 + 1 == old) ≡ false = grind (arith, nat_tests) in
    subst P (sym t.2) (omega arith, refl, stays (closed_cells (suc t.0) ++ (0, false) ∷ []) log v e old (2 * t.0 + 1) is (inr (t.0, t.1, refl)))

-- a cell that is at home
at_home : (k i : ℕ) (more : List Cell) → i < k → (cell (closed_cells k ++ more) i).1 ≡ true
at_home zero i more below = absurd (omega arith)
at_home (suc k) zero more below = refl
at_home (suc k) (suc i) more below = at_home k i more (omega arith)

-- the open cell comes home
comes_home : (k : ℕ) → slice_set (closed_cells k ++ (0, false) ∷ []) k (0, true) ≡ closed_cells (suc k)
comes_home zero = refl
comes_home (suc k) = ap (λ (cs : List Cell). (0, true) ∷ cs) (comes_home k)

-- the open cell is the last
open_is : (k m : ℕ) → suc (suc m) < length ((2 * k + 1, true) ∷ (closed_cells (suc k) ++ (0, false) ∷ [])) → (cell ((2 * k + 1, true) ∷ (closed_cells (suc k) ++ (0, false) ∷ [])) (suc (suc m))).1 ≡ false → k ≡ m
open_is k m inside away =
    let long = length-append (closed_cells k) ((0, false) ∷ []) in
    let most : m ≤ k = omega (arith, inside, long, closed_length k) in
    let least : ¬ (m < k) = λ below. absurd (cc (away, at_home k m ((0, false) ∷ []) below)) in
    omega (arith, most, least)

ends_open : (k m : ℕ) (log v : List DiaryEntry) (e : DiaryEntry) → length v ≡ 2 * m + 1 → length log ≡ 2 * k + 1 → k ≡ m → IsPrefix v log
    → Goes IsKept hidden moved 0 (v, (nib may_write (suc (suc m)) 0, None)) (λ n. either (n == 2 * m + 1) (2 * m + 1 + 1) n) (Ends (step 0 (2 * m + 1) (2 * m + 1 + 1) e) (v, (nib may_write (suc (suc m)) 0, None))) ((2 * k + 1, true) ∷ (closed_cells (suc k) ++ (0, false) ∷ [])) log
ends_open k m log v e len long same pre =
    let whole : v ≡ log = prefix_whole v log pre (omega arith) in
    let is : (2 * k + 1 == 2 * m + 1) ≡ true = grind (arith, nat_tests) in
    let longer : length (log ++ e ∷ []) ≡ 2 * suc k = omega (arith, length-append log (e ∷ [])) in
    let n : 2 * m + 1 + 1 ≡ 2 * suc k = omega arith in
    let home : slice_set (closed_cells k ++ (0, false) ∷ []) m (0, true) ≡ closed_cells (suc k) = subst (λ (j : ℕ). slice_set (closed_cells k ++ (0, false) ∷ []) j (0, true) ≡ closed_cells (suc k)) same (comes_home k) in
    let cells : (2 * m + 1 + 1, true) ∷ (0, true) ∷ slice_set (closed_cells k ++ (0, false) ∷ []) m (0, true) ≡ (2 * suc k, true) ∷ closed_cells (suc (suc k)) = rw (n, home) refl in (
      gives,
      e ∷ [],
      None,
      refl,
      rw is (inl (suc k, longer, cells)),
      inl (refl, refl),
      ap (λ (w : List DiaryEntry). w ++ e ∷ []) (sym whole),
    )

pub ends : (v : List DiaryEntry) (e : DiaryEntry) (m : ℕ) → length v ≡ 2 * m + 1
    → Moves IsKept hidden moved 0 (v, (nib may_write (suc (suc m)) 0, None)) (λ n. either (n == 2 * m + 1) (2 * m + 1 + 1) n) (Ends (step 0 (2 * m + 1) (2 * m + 1 + 1) e) (v, (nib may_write (suc (suc m)) 0, None)))
ends v e m len cs log (inl t) pre away =
    let own = subst (Away (nib may_write (suc (suc m)) 0)) t.2 away refl in
    let below : m < t.0 = omega (arith, own.0, closed_length t.0) in
    let home : (cell (closed_cells t.0) m).1 ≡ true = subst (λ (c : List Cell). (cell c m).1 ≡ true) (append-nil (closed_cells t.0)) (at_home t.0 m [] below) in
    absurd (cc (own.1, home))
ends v e m len cs log (inr t) pre away =
    let own = subst (Away (nib may_write (suc (suc m)) 0)) t.2 away refl in
    let P : List Cell → Type 0 = λ c. (0 < length c) × ((cell c 0).1 ≡ true) × Goes IsKept hidden moved 0 (v, (nib may_write (suc (suc m)) 0, None)) (λ n. either (n == 2 * m + 1) (2 * m + 1 + 1) n) (Ends (step 0 (2 * m + 1) (2 * m + 1 + 1) e) (v, (nib may_write (suc (suc m)) 0, None))) c log in
    let same : t.0 ≡ m = open_is t.0 m own.0 own.1 in
    subst P (sym t.2) (omega arith, refl, ends_open t.0 m log v e len t.1 same pre)
