-- Why a line over which an event's entries are laid is right.
use Rattle.std.proofs.Common.{◌≡◌, ◌⊎◌, inl, inr, ◌↔◌, ℕ, ℤ, ◌||◌, Bool, true, false, if◌then◌else◌, List, [], ◌∷◌, ◌++◌, filter, Option, Some, None, refl, ap, sym, subst, ◌∙◌}
use Rattle.std.specs.Option.{option_map, option_map_or}
use Rattle.std.proofs.lemmas.Bool.{both_ways}
use Rattle.std.proofs.lemmas.Option.{none-some, same_Some}
use Rattle.adr_time.specs.Spans.{covers}
use Rattle.adr_model.specs.declared.entry.Entry.{Entry}
use Rattle.adr_model.specs.declared.entry.Rank.{Rank}
use Rattle.adr_model.specs.declared.timeline.Winner.{Winner}
use Rattle.adr_model.specs.Governor.{first_of, winner_at, winner_of}
use Rattle.adr_model.specs.Lists.{In}
use Rattle.adr_model.specs.Rank.{goes_before}
use Rattle.adr_model.proofs.Lists.{In-append_cases, In-append_left, In-append_right, In-from_filter}
use Rattle.adr_timeline.specs.Steps.{lesser, rank_at, winner_of_rank}
use Rattle.adr_timeline.proofs.Least.{rank_append, winner_rank}
use Rattle.adr_lines.specs.Grouped.{any_covers_at}
use Rattle.adr_lines.specs.Right.{written_in}
use Rattle.adr_lines.proofs.Winners.{AreAt, winner_same}
use Rattle.adr_group.specs.Laid.{least_over}

-- ---- the ranks of winners

pub first_in : (es : List Entry) (e : Entry) → first_of es ≡ Some e → In e es
first_in [] e h = absurd (none-some e h)
first_in (x ∷ xs) e h = by (first_of xs) (λ f k. first_in xs f k) h
  where
    by : (o : Option Entry) → ((f : Entry) → o ≡ Some f → In f xs) → Some (option_map_or (λ (f : Entry). if goes_before f.rank x.rank then f else x) o x) ≡ Some e → In e (x ∷ xs)
    by None rest k = inl (same_Some x e k)
    by (Some f) rest k = choose (goes_before f.rank x.rank) k
      where
        choose : (b : Bool) → Some (if b then f else x) ≡ Some e → In e (x ∷ xs)
        choose true m = inr (subst (λ (z : Entry). In z xs) (same_Some f e m) (rest f refl))
        choose false m = inl (same_Some x e m)

-- where the ranks are those of the entries, that of the winner is the least
pub ranks_held : (rank : Winner → Rank) (es : List Entry) (t : ℤ) → ((e : Entry) → In e es → rank (winner_of e) ≡ e.rank) → option_map rank (winner_at es t) ≡ rank_at es t
ranks_held rank es t held = by (first_of (filter (λ (e : Entry). covers e.span t) es)) refl
  where
    by : (o : Option Entry) → first_of (filter (λ (e : Entry). covers e.span t) es) ≡ o → option_map rank (option_map winner_of o) ≡ option_map (λ (e : Entry). e.rank) o
    by None h = refl
    by (Some e) h = ap (λ (r : Rank). Some r) (held e (In-from_filter (λ (x : Entry). covers x.span t) es e (first_in (filter (λ (x : Entry). covers x.span t) es) e h)).0)

-- an entry that covers is one of those that cover
pub some_covers : (es : List Entry) (t : ℤ) (e : Entry) → In e es → covers e.span t ≡ true → any_covers_at es t ≡ true
some_covers [] t e m c = absurd m
some_covers (x ∷ xs) t e (inl same) c = let h : covers x.span t ≡ true = ap (λ (y : Entry). covers y.span t) same ∙ c in rw h refl
some_covers (x ∷ xs) t e (inr n) c = either (any_covers_at xs t) (some_covers xs t e n c) (covers x.span t)
  where
    either : (b : Bool) → b ≡ true → (a : Bool) → (a || b) ≡ true
    either b h true = refl
    either b h false = h

-- ---- what is laid is right

module _ (es : List Entry) (others both : List ℕ) (come : List Entry) (comes : (e : Entry) → In e (written_in both es) ↔ (In e (written_in others es) ⊎ In e come)) (t : ℤ) where
  there : AreAt t (written_in others es ++ come) (written_in both es)
  there e m c = (comes e).1 (In-append_cases e (written_in others es) come m)

  back : AreAt t (written_in both es) (written_in others es ++ come)
  back e m c = by ((comes e).0 m)
    where
      by : In e (written_in others es) ⊎ In e come → In e (written_in others es ++ come)
      by (inl n) = In-append_left e (written_in others es) come n
      by (inr n) = In-append_right e (written_in others es) come n

  -- the least of what is shown of the others and of those that come wins among both
  pub laid_wins : (shown : List Entry) → rank_at shown t ≡ rank_at (written_in others es) t → least_over shown come t ≡ winner_at (written_in both es) t
  laid_wins shown same =
      ap (λ (r : Option Rank). option_map winner_of_rank (lesser r (rank_at come t))) same
      ∙ (ap (option_map winner_of_rank) (sym (rank_append (written_in others es) come t))
      ∙ (winner_rank (written_in others es ++ come) t ∙ winner_same (written_in others es ++ come) (written_in both es) t there back))

  -- where none of those that come covers, what wins among the others wins among both
  pub others_win : any_covers_at come t ≡ false → winner_at (written_in others es) t ≡ winner_at (written_in both es) t
  others_win none = winner_same (written_in others es) (written_in both es) t (λ e m c. (comes e).1 (inl m)) (λ e m c. by e c ((comes e).0 m))
    where
      by : (e : Entry) → covers e.span t ≡ true → In e (written_in others es) ⊎ In e come → In e (written_in others es)
      by e c (inl n) = n
      by e c (inr n) = absurd (both_ways (any_covers_at come t) none (some_covers come t e n c))
