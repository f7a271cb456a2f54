-- A tree of which a part is written anew.
use Rattle.std.proofs.Common.{◌≡◌, ℕ, zero, suc, ◌+◌, ◌-◌, ◌/◌, ◌<◌, ◌≤◌, max, min, List, length, take, drop, set, Option, Some, None, IfNone, IfSome, ◌⊎◌, ◌∙◌, ap, arith, inl, inr}
use Rattle.std.proofs.lemmas.List.{length-set, length-take-le, length-drop, take-set-le, drop-set-lt, drop-set-add}
use Rattle.std.proofs.Math.Seq.{take-set-lt}
use Rattle.adr_time.specs.declared.span.End.{End}
use Rattle.adr_model.specs.declared.entry.Entry.{Entry}
use Rattle.adr_index.specs.declared.chunk.EntryChunk.{EntryChunk}
use Rattle.adr_index.specs.declared.stretch.Stretch.{Stretch}
use Rattle.adr_index.specs.Chunks.{listed}
use Rattle.adr_index.specs.Tables.{HasTops, HasTopsBut, IsChangedAt}
use Rattle.adr_index.specs.Tree.{IsTree, IsTreeBut}
use Rattle.adr_index.proofs.Grown.{tree_levels, tree_short}

module _ {A : Type 0} (f : A → List Entry) (few : ℕ) where
  pub none_but : 0 < few → (n from to : ℕ) (xs : List A) (gs : List (Option End)) → to ≤ from → IsTree f few n xs gs → IsTreeBut f few n from to xs gs
  none_but some zero from to xs gs le t = tt
  none_but some (suc n) from to xs gs le t = (
    λ _. t,
    λ more. let parts = (t (omega (arith, some, more))).1 more in (
      none_but some n (min from (length xs / 2)) (min to (length xs / 2)) (take (length xs / 2) xs) (take (length xs / 2 - 1) gs) (omega (arith, le)) parts.0,
      none_but some n (from - length xs / 2) (to - length xs / 2) (drop (length xs / 2) xs) (drop (length xs / 2) gs) (omega (arith, le)) parts.1,
    ),
  )

  -- everything is
  pub all_but : (n from to : ℕ) (xs : List A) (gs : List (Option End)) → from ≡ 0 → length xs ≤ to → IsTreeBut f few n from to xs gs
  all_but zero from to xs gs s l = tt
  all_but (suc n) from to xs gs s l = (
    λ le. tree_short f few (suc n) xs gs (omega (arith, le, s, l)),
    λ more. (
      all_but n (min from (length xs / 2)) (min to (length xs / 2)) (take (length xs / 2) xs) (take (length xs / 2 - 1) gs) (omega (arith, s)) (rw (length-take-le (length xs / 2) xs (omega arith)) (omega (arith, l))),
      all_but n (from - length xs / 2) (to - length xs / 2) (drop (length xs / 2) xs) (drop (length xs / 2) gs) (omega (arith, s)) (rw (length-drop (length xs / 2) xs) (omega (arith, l))),
    ),
  )

  -- the halves
  pub but_left : (n from to a b : ℕ) (xs : List A) (gs : List (Option End)) → 0 < n → few < length xs → a ≡ min from (length xs / 2) → b ≡ min to (length xs / 2) → IsTreeBut f few n from to xs gs → IsTreeBut f few (n - 1) a b (take (length xs / 2) xs) (take (length xs / 2 - 1) gs)
  but_left zero from to a b xs gs level more s t h = absurd (omega arith)
  but_left (suc n) from to a b xs gs level more s t h = let e : suc n - 1 ≡ n = omega arith in rw (e, s, t) (h.1 more).0

  pub but_right : (n from to a b : ℕ) (xs : List A) (gs : List (Option End)) → 0 < n → few < length xs → a ≡ from - length xs / 2 → b ≡ to - length xs / 2 → IsTreeBut f few n from to xs gs → IsTreeBut f few (n - 1) a b (drop (length xs / 2) xs) (drop (length xs / 2) gs)
  but_right zero from to a b xs gs level more s t h = absurd (omega arith)
  but_right (suc n) from to a b xs gs level more s t h = let e : suc n - 1 ≡ n = omega arith in rw (e, s, t) (h.1 more).1

  -- more is
  pub more_but : (n from to a b : ℕ) (xs : List A) (gs : List (Option End)) → a ≤ from → to ≤ b → IsTreeBut f few n from to xs gs → IsTreeBut f few n a b xs gs
  more_but zero from to a b xs gs low high t = tt
  more_but (suc n) from to a b xs gs low high t = (
    λ le. t.0 (omega (arith, low, high, le)),
    λ more. (
      more_but n (min from (length xs / 2)) (min to (length xs / 2)) (min a (length xs / 2)) (min b (length xs / 2)) (take (length xs / 2) xs) (take (length xs / 2 - 1) gs) (omega (arith, low)) (omega (arith, high)) (t.1 more).0,
      more_but n (from - length xs / 2) (to - length xs / 2) (a - length xs / 2) (b - length xs / 2) (drop (length xs / 2) xs) (drop (length xs / 2) gs) (omega (arith, low)) (omega (arith, high)) (t.1 more).1,
    ),
  )

  -- one of the parts is, and more
  pub one_but : (n from to a b k : ℕ) (xs : List A) (c : A) (gs : List (Option End)) → a ≤ from → to ≤ b → a ≤ k → k < b → IsTreeBut f few n from to xs gs → IsTreeBut f few n a b (set xs k c) gs
  one_but zero from to a b k xs c gs low high first last t = tt
  one_but (suc n) from to a b k xs c gs low high first last t = rw (length-set xs k c) (
    λ le. absurd (omega (arith, le, first, last)),
    λ more.
        let parts = t.1 more in
        elim (stands k (length xs / 2)) [
          | inl left ↦ (
            rw (take-set-lt (length xs / 2) xs k c left) (one_but n (min from (length xs / 2)) (min to (length xs / 2)) (min a (length xs / 2)) (min b (length xs / 2)) k (take (length xs / 2) xs) c (take (length xs / 2 - 1) gs) (omega (arith, low)) (omega (arith, high)) (omega (arith, first)) (omega (arith, last, left)) parts.0),
            rw (drop-set-lt (length xs / 2) xs k c left) (more_but n (from - length xs / 2) (to - length xs / 2) (a - length xs / 2) (b - length xs / 2) (drop (length xs / 2) xs) (drop (length xs / 2) gs) (omega (arith, low)) (omega (arith, high)) parts.1),
          )
          | inr right ↦ (
            rw (take-set-le (length xs / 2) xs k c right) (more_but n (min from (length xs / 2)) (min to (length xs / 2)) (min a (length xs / 2)) (min b (length xs / 2)) (take (length xs / 2) xs) (take (length xs / 2 - 1) gs) (omega (arith, low)) (omega (arith, high)) parts.0),
            rw (set_behind (length xs / 2) right) (one_but n (from - length xs / 2) (to - length xs / 2) (a - length xs / 2) (b - length xs / 2) (k - length xs / 2) (drop (length xs / 2) xs) c (drop (length xs / 2) gs) (omega (arith, low)) (omega (arith, high)) (omega (arith, first)) (omega (arith, last, right)) parts.1),
          )
        ],
  )
    where
      stands : (k m : ℕ) → (k < m) ⊎ (m ≤ k)
      stands k zero = inr (omega arith)
      stands zero (suc m) = inl (omega arith)
      stands (suc k) (suc m) = elim (stands k m) [
        | inl lt ↦ inl (omega (arith, lt))
        | inr le ↦ inr (omega (arith, le))
      ]

      set_behind : (m : ℕ) → m ≤ k → drop m (set xs k c) ≡ set (drop m xs) (k - m) c
      set_behind m le =
          let parts : k ≡ m + (k - m) = omega (arith, le) in
          ap (λ (j : ℕ). drop m (set xs j c)) parts ∙ drop-set-add m xs (k - m) c

-- no chunk was changed
pub tops_but : (from to : ℕ) (cs : List EntryChunk) (gs : List (Option End)) → to ≤ from → HasTops cs gs → HasTopsBut from to cs gs
tops_but from to cs gs le h = λ n. none_but listed 6 (omega arith) n from to cs gs le (tree_levels listed 6 h.levels n cs gs h.enough h.tree)

pub inside_new : (r : Option ℕ) (old new : List EntryChunk) (count : ℕ) → count ≡ length new → IfSome r (λ place. IsChangedAt place old new) → IfSome r (λ place. place < count)
inside_new None old new count all h = h
inside_new (Some k) old new count all h = rw (all, h.is, length-set old k h.chunk) h.inside

-- one more was, or all were
pub stretched : (r : Option ℕ) (old new : List EntryChunk) (gs : List (Option End)) (s t : Stretch) (count : ℕ) → count ≡ length new → IfSome r (λ place. IsChangedAt place old new) → IfSome r (λ place. (t.from ≡ min s.from place) × (t.to ≡ max s.to (place + 1))) → IfNone r ((t.from ≡ 0) × (t.to ≡ count)) → HasTopsBut s.from s.to old gs → HasTopsBut t.from t.to new gs
stretched None old new gs s t count whole h one all tops = λ n. all_but listed 6 n t.from t.to new gs all.0 (omega (arith, all.1, whole))
stretched (Some k) old new gs s t count whole h one all tops = λ n. rw h.is (one_but listed 6 n s.from s.to t.from t.to k old h.chunk gs (omega (arith, one.0)) (omega (arith, one.1)) (omega (arith, one.0)) (omega (arith, one.1)) (tops n))
