-- Why a line that an event leaves is right.
use Rattle.std.proofs.Common.{◌≡◌, ◌⊎◌, inl, inr, ℕ, ℤ, ◌==◌, Bool, true, false, if◌then◌else◌, List, ◌++◌, filter, Option, Some, None, refl, ap, sym, ◌∙◌, eqb-true, eq-eqb}
use Rattle.std.specs.Option.{option_map}
use Rattle.std.proofs.lemmas.Bool.{both_ways, false≢true}
use Rattle.adr_time.specs.Spans.{covers}
use Rattle.adr_model.specs.declared.entry.Entry.{Entry}
use Rattle.adr_model.specs.declared.entry.Rank.{Rank}
use Rattle.adr_model.specs.Governor.{first_of, winner_at}
use Rattle.adr_model.specs.Lists.{In}
use Rattle.adr_model.specs.Rank.{goes_before}
use Rattle.adr_model.proofs.Lists.{In-append_cases, In-append_left, In-append_right, In-filter, In-from_filter}
use Rattle.adr_timeline.specs.Steps.{lesser, rank_at, winner_of_rank}
use Rattle.adr_timeline.proofs.Least.{lesser_none, rank_append, winner_rank}
use Rattle.adr_lines.specs.Right.{has_number, written_in}
use Rattle.adr_lines.proofs.Winners.{AreAt, winner_same}
use Rattle.adr_group.specs.Governed.{is_of}
use Rattle.adr_group.specs.Writes.{changed_number, is_number}
use Rattle.adr_group.proofs.Joining.{first_in}

-- ---- where no entry of an event that goes covers

module _ (ws both : List ℕ) (gone : Option ℕ) (goes : (n : ℕ) → has_number ws n ≡ changed_number gone None both n) (es : List Entry) (t : ℤ)
    (none : (e : Entry) → In e es → covers e.span t ≡ true → is_number gone e.rank.written ≡ true → ⊥) where
  abbrev of_both : Entry → Bool
  of_both e = has_number both e.rank.written

  abbrev of_new : Entry → Bool
  of_new e = has_number ws e.rank.written

  still_there : AreAt t (written_in both es) (written_in ws es)
  still_there e m c =
      let f = In-from_filter of_both es e m in
      In-filter of_new es e f.0 (goes e.rank.written ∙ by f.0 f.1 (is_number gone e.rank.written) refl)
    where
      by : In e es → of_both e ≡ true → (b : Bool) → is_number gone e.rank.written ≡ b → (if b then false else of_both e) ≡ true
      by n h true k = absurd (none e n c k)
      by n h false k = h

  was_there : AreAt t (written_in ws es) (written_in both es)
  was_there e m c =
      let f = In-from_filter of_new es e m in
      In-filter of_both es e f.0 (by (is_number gone e.rank.written) (sym (goes e.rank.written) ∙ f.1))
    where
      by : (b : Bool) → (if b then false else of_both e) ≡ true → of_both e ≡ true
      by true h = absurd (false≢true h)
      by false h = h

  pub stays_winner : winner_at (written_in both es) t ≡ winner_at (written_in ws es) t
  stays_winner = winner_same (written_in both es) (written_in ws es) t still_there was_there

-- ---- what wins without an event that doesn't win

-- the lesser of two ranks, of which the one of that number isn't it
other_least : (number : ℕ) (a b : Option Rank) → ((r : Rank) → b ≡ Some r → r.written ≡ number) → is_of number (option_map winner_of_rank (lesser a b)) ≡ false → lesser a b ≡ a
other_least number a None own h = lesser_none a
other_least number None (Some r) own h = absurd (both_ways (r.written == number) h (eq-eqb r.written number (own r refl)))
other_least number (Some a) (Some r) own h = by (goes_before r a) h
  where
    by : (b : Bool) → is_of number (option_map winner_of_rank (Some (if b then r else a))) ≡ false → ◌≡◌ {A = Option Rank} (Some (if b then r else a)) (Some a)
    by true k = absurd (both_ways (r.written == number) k (eq-eqb r.written number (own r refl)))
    by false k = refl

module _ (ws others : List ℕ) (number : ℕ) (less : (n : ℕ) → has_number ws n ≡ changed_number (Some number) None others n) where
  was : (n : ℕ) → has_number ws n ≡ true → has_number others n ≡ true
  was n h = by (number == n) (sym (less n) ∙ h)
    where
      by : (b : Bool) → (if b then false else has_number others n) ≡ true → has_number others n ≡ true
      by true k = absurd (false≢true k)
      by false k = k

  stays : (n : ℕ) → (number == n) ≡ false → has_number others n ≡ true → has_number ws n ≡ true
  stays n apart h = less n ∙ ap (λ b. if b then false else has_number others n) apart ∙ h

  module _ (es : List Entry) (t : ℤ) where
    abbrev of_ws : Entry → Bool
    of_ws e = has_number ws e.rank.written

    abbrev of_others : Entry → Bool
    of_others e = has_number others e.rank.written

    abbrev is_own : Entry → Bool
    is_own e = number == e.rank.written

    back : AreAt t (written_in ws es) (written_in others es)
    back e m c = let f = In-from_filter of_ws es e m in In-filter of_others es e f.0 (was e.rank.written f.1)

    abbrev owns : List Entry
    owns = written_in others (filter is_own es)

    own_ranks : (r : Rank) → rank_at owns t ≡ Some r → r.written ≡ number
    own_ranks r h = by (first_of (filter (λ (e : Entry). covers e.span t) owns)) refl h
      where
        by : (o : Option Entry) → first_of (filter (λ (e : Entry). covers e.span t) owns) ≡ o → option_map (λ (e : Entry). e.rank) o ≡ Some r → r.written ≡ number
        by None f k = absurd (cc)
        by (Some e) f k =
            let in_owns = In-from_filter (λ (x : Entry). covers x.span t) owns e (first_in (filter (λ (x : Entry). covers x.span t) owns) e f) in
            let in_es = In-from_filter is_own es e (In-from_filter of_others (filter is_own es) e in_owns.0).0 in
            let same : e.rank ≡ r = cc in
            ap (λ (x : Rank). x.written) (sym same) ∙ sym (eqb-true number e.rank.written in_es.1)

    -- where the winner isn't of that number
    pub same_winner : is_of number (winner_at (written_in others es) t) ≡ false → winner_at (written_in others es) t ≡ winner_at (written_in ws es) t
    same_winner h =
        parted ∙ ap (option_map winner_of_rank) (other_least number (rank_at (written_in ws es) t) (rank_at owns t) own_ranks (ap (is_of number) (sym parted) ∙ h)) ∙ winner_rank (written_in ws es) t
      where
        there : AreAt t (written_in others es) (written_in ws es ++ owns)
        there e m c = let f = In-from_filter of_others es e m in by f.0 f.1 (is_own e) refl
          where
            by : In e es → of_others e ≡ true → (b : Bool) → is_own e ≡ b → In e (written_in ws es ++ owns)
            by n k true o = In-append_right e (written_in ws es) owns (In-filter of_others (filter is_own es) e (In-filter is_own es e n o) k)
            by n k false o = In-append_left e (written_in ws es) owns (In-filter of_ws es e n (stays e.rank.written o k))

        from : AreAt t (written_in ws es ++ owns) (written_in others es)
        from e m c = by (In-append_cases e (written_in ws es) owns m)
          where
            by : In e (written_in ws es) ⊎ In e owns → In e (written_in others es)
            by (inl n) = back e n c
            by (inr n) = let f = In-from_filter of_others (filter is_own es) e n in In-filter of_others es e (In-from_filter is_own es e f.0).0 f.1

        parted : winner_at (written_in others es) t ≡ option_map winner_of_rank (lesser (rank_at (written_in ws es) t) (rank_at owns t))
        parted =
            winner_same (written_in others es) (written_in ws es ++ owns) t there from
            ∙ sym (winner_rank (written_in ws es ++ owns) t)
            ∙ ap (option_map winner_of_rank) (rank_append (written_in ws es) owns t)
