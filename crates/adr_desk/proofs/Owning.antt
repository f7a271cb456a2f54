-- A group that is built from the entries of its own events.
use Rattle.std.proofs.Common.{◌≡◌, ℕ, ℤ, ◌+◌, ◌⊎◌, inl, inr, true, List, [], ◌++◌, ap, sym, subst, ◌∙◌, append-nil}
use Rattle.adr_value.specs.declared.payload.PayloadType.{PayloadType}
use Rattle.adr_model.specs.declared.entry.Tie.{Tie}
use Rattle.adr_model.specs.declared.written.Written.{Written}
use Rattle.adr_model.specs.Governor.{entries_of}
use Rattle.adr_model.proofs.Lists.{In-filter, In-from_filter}
use Rattle.adr_lines.specs.declared.grouped.TypeEntries.{TypeEntries}
use Rattle.adr_lines.specs.Grouped.{any_covers_at, entries_under}
use Rattle.adr_lines.specs.Right.{has_number}
use Rattle.adr_group.specs.Group.{AreWindowsOf, IsRightOf, Lines, RightMoves}
use Rattle.adr_desk.specs.Bulk.{chosen}

-- ---- what is right of its own events is right of all

module _ (tie : Tie) (events : List Written) (numbers : List ℕ) where
  pub right_of_all : RightMoves tie → (g : Lines) → g.writes ≡ numbers → IsRightOf tie (chosen events numbers) g → IsRightOf tie events g
  right_of_all law g same = law (chosen events numbers) events g
      (λ w h. (
        λ m. (In-from_filter (λ v. has_number numbers v.written) events w m).0,
        λ m. In-filter (λ v. has_number numbers v.written) events w m (subst (λ ns. has_number ns w.written ≡ true) same h),
      ))

module _ (events : List Written) (numbers : List ℕ) where
  pub own_windows : (entries windows : List TypeEntries) (none writes : List ℕ) → none ≡ [] → writes ≡ numbers
      → AreWindowsOf events [] numbers (entries_under entries)
      → ((k : PayloadType) (t : ℤ) → any_covers_at (entries_under entries k) t ≡ true → any_covers_at (entries_under windows k) t ≡ true)
      → AreWindowsOf (chosen events numbers) none writes (entries_under (windows ++ []))
  own_windows entries windows none writes empty same held covers w m =
      subst (λ ns. (has_number ns w.written ≡ has_number writes w.written) ⊎ ((k : PayloadType) (t : ℤ) → any_covers_at (entries_of k w) t ≡ true → any_covers_at (entries_under (windows ++ []) k) t ≡ true))
      (sym empty) (by (held w (In-from_filter (λ v. has_number numbers v.written) events w m).0))
    where
      by : (has_number [] w.written ≡ has_number numbers w.written) ⊎ ((k : PayloadType) (t : ℤ) → any_covers_at (entries_of k w) t ≡ true → any_covers_at (entries_under entries k) t ≡ true)
          → (has_number [] w.written ≡ has_number writes w.written) ⊎ ((k : PayloadType) (t : ℤ) → any_covers_at (entries_of k w) t ≡ true → any_covers_at (entries_under (windows ++ []) k) t ≡ true)
      by (inl e) = inl (e ∙ ap (λ ns. has_number ns w.written) (sym same))
      by (inr f) = inr (λ k t c. ap (λ gs. any_covers_at (entries_under gs k) t) (append-nil windows) ∙ covers k t (f k t c))
