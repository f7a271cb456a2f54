-- Why a repaired group is right.
use Rattle.std.proofs.Common.{◌≡◌, ◌⊎◌, inl, inr, ℕ, ℤ, Bool, true, false, if◌then◌else◌, List, [], ◌∷◌, filter, flat_map, refl, ap, sym, ◌∙◌}
use Rattle.std.proofs.lemmas.Bool.{both_ways}
use Rattle.adr_value.specs.declared.payload.PayloadType.{PayloadType}
use Rattle.adr_model.specs.declared.entry.Entry.{Entry}
use Rattle.adr_model.specs.declared.entry.Tie.{Tie}
use Rattle.adr_model.specs.declared.timeline.Segment.{Segment}
use Rattle.adr_model.specs.declared.written.Written.{Written}
use Rattle.adr_model.specs.Governor.{entries_of}
use Rattle.adr_lines.specs.Grouped.{any_covers_at}
use Rattle.adr_lines.specs.Right.{among, has_number, winner_under}
use Rattle.adr_lines.proofs.Right.{held_wins, same_wins}
use Rattle.adr_lines.specs.declared.indexes.Indexes.{Indexes}
use Rattle.adr_lines.specs.Exchange.{IsIndexOf}
use Rattle.adr_lines.specs.Indexes.{under}
use Rattle.adr_group.specs.Group.{shown_in, AgreeOutside, AreWindowsOf, IsRightOf, RightMoves}
use Rattle.adr_group.proofs.Turns.{wins}

pub right_moves : (tie : Tie) → RightMoves tie
right_moves tie old new group same before k t =
    before k t
    ∙ same_wins tie old new group.writes group.writes k t
    (λ w c. (λ p. ((same w p.1).0 p.0, p.1), λ q. ((same w q.1).1 q.0, q.1)))

none_of : (events : List Written) → filter (λ (w : Written). has_number [] w.written) events ≡ []
none_of [] = refl
none_of (w ∷ ws) = none_of ws

-- with no writes nothing wins
pub none_right : (tie : Tie) (events : List Written) (ws : List ℕ) (lines : List (List ℕ × List Segment)) → ws ≡ [] → lines ≡ []
    → IsRightOf tie events (record { writes = ws; lines = lines })
none_right tie events ws lines no_writes no_lines k t =
    ap (λ (ls : List (List ℕ × List Segment)). shown_in ls k t) no_lines
    ∙ ap (λ (es : List Written). winner_under tie (flat_map (entries_of k) es) t) (sym (none_of events))
    ∙ ap (λ (ns : List ℕ). winner_under tie (among events ns k) t) (sym no_writes)

module _ (ws others : List ℕ) (windows : PayloadType → List Entry) (indexes : Indexes) (lines new_lines : List (List ℕ × List Segment)) (tie : Tie)
    (shows : (k : PayloadType) (t : ℤ) → shown_in new_lines k t ≡ (if any_covers_at (windows k) t then wins indexes others k t else shown_in lines k t)) where
  -- inside the windows the entries of the writes are looked at, and outside them the writes agree
  pub repaired_moves : (old new : List Written) → IsIndexOf tie new indexes → AgreeOutside old new ws others windows
      → IsRightOf tie old (record { writes = ws; lines = lines })
      → IsRightOf tie new (record { writes = others; lines = new_lines })
  unfolding IsIndexOf
  repaired_moves old new indexed agree before k t = shows k t ∙ by (any_covers_at (windows k) t) refl
    where
      by : (b : Bool) → any_covers_at (windows k) t ≡ b → (if b then wins indexes others k t else shown_in lines k t) ≡ winner_under tie (among new others k) t
      by true inside = held_wins tie new k (under indexes k) others t (indexed k)
      by false outside = before k t ∙ same_wins tie old new ws others k t (agree k t outside)

  -- the same where no event comes or goes
  pub repaired_right : (events : List Written) → IsIndexOf tie events indexes → AreWindowsOf events ws others windows
      → IsRightOf tie events (record { writes = ws; lines = lines })
      → IsRightOf tie events (record { writes = others; lines = new_lines })
  repaired_right events indexed within = repaired_moves events events indexed agree
    where
      which : (k : PayloadType) (t : ℤ) (w : Written) → any_covers_at (windows k) t ≡ false → any_covers_at (entries_of k w) t ≡ true
          → (has_number ws w.written ≡ has_number others w.written) ⊎ ((k : PayloadType) (t : ℤ) → any_covers_at (entries_of k w) t ≡ true → any_covers_at (windows k) t ≡ true)
          → has_number ws w.written ≡ has_number others w.written
      which k t w outside c (inl same) = same
      which k t w outside c (inr held) = absurd (both_ways (any_covers_at (windows k) t) outside (held k t c))

      agree : AgreeOutside events events ws others windows
      agree k t outside w c =
          (λ p. (p.0, sym (which k t w outside c (within w p.0)) ∙ p.1), λ q. (q.0, which k t w outside c (within w q.0) ∙ q.1))
