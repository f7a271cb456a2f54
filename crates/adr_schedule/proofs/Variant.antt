-- What becomes of a group.
use Rattle.std.proofs.Common.{◌≡◌, ℕ, ℤ, ◌+◌, ◌==◌, ◌⊎◌, inl, inr, Bool, true, false, if◌then◌else◌, List, ◌++◌, Option, Some, None, refl, ap, sym, subst, ◌∙◌, eqb-true}
use Rattle.std.proofs.lemmas.Bool.{both_ways}
use Rattle.std.proofs.lemmas.Grind.{flat_map-append}
use Rattle.adr_value.specs.declared.payload.PayloadType.{PayloadType}
use Rattle.adr_model.specs.declared.entry.Tie.{Tie}
use Rattle.adr_model.specs.declared.written.Written.{Written}
use Rattle.adr_model.specs.Governor.{entries_of}
use Rattle.adr_lines.specs.declared.grouped.TypeEntries.{TypeEntries}
use Rattle.adr_lines.specs.Grouped.{any_covers_at, entries_under}
use Rattle.adr_lines.specs.Right.{has_number}
use Rattle.adr_lines.proofs.Covered.{any_left, any_ranked, any_right}
use Rattle.adr_lines.specs.declared.indexes.Indexes.{Indexes}
use Rattle.adr_lines.specs.Exchange.{IsIndexOf}
use Rattle.adr_group.specs.Group.{Lines, AreWindowsOf, IsRightOf}
use Rattle.adr_group.specs.Writes.{changed_number, is_number}
use Rattle.adr_schedule.specs.declared.change.Change.{Change}
use Rattle.adr_schedule.specs.declared.change.Side.{Side}
use Rattle.adr_schedule.specs.Seating.{shifted}
use Rattle.adr_schedule.specs.Shift.{entries_in, kept_side, number_in, AreSidesOf, AreTwo, Becomes, HasEntriesOf}

-- ---- shifts of one number

module _ (gone come : Option ℕ) (n : ℕ) where
  -- a second shift changes nothing more
  pub shifted_again : (b : Bool) → shifted gone come (shifted gone come b n) n ≡ shifted gone come b n
  shifted_again b = by (is_number come n) refl (is_number gone n) refl
    where
      by : (c : Bool) → is_number come n ≡ c → (g : Bool) → is_number gone n ≡ g → shifted gone come (shifted gone come b n) n ≡ shifted gone come b n
      by true c g e = rw c refl
      by false c true e = rw (c, e) refl
      by false c false e = rw (c, e) refl

module _ (change : Change) (indexes : Indexes) where
  pub becomes_passes : (f g h : Lines) → Becomes change indexes f g → Becomes change indexes g h → Becomes change indexes f h
  becomes_passes f g h a b = record {
    writes = λ n.
        b.writes n ∙ ap (λ x. shifted (number_in change.gone) (number_in change.come) x n) (a.writes n)
        ∙ shifted_again (number_in change.gone) (number_in change.come) n (has_number f.writes n);
    right = λ tie events i s r. b.right tie events i s (a.right tie events i s r);
  }

-- ---- the sides that make a difference to a group

-- no number is that of a side that makes no difference
module _ (writes : List ℕ) (n : ℕ) where
  gone_without : (o : Option Side) → kept_side true writes o ≡ None → is_number (number_in o) n ≡ true → has_number writes n ≡ false
  gone_without None h k = absurd (cc)
  gone_without (Some s) h k = subst (λ m. has_number writes m ≡ false) (eqb-true s.written n k) (by (has_number writes s.written) h)
    where
      by : (b : Bool) → (if b then Some s else None) ≡ None → b ≡ false
      by false e = refl
      by true e = absurd (cc)

  come_within : (o : Option Side) → kept_side false writes o ≡ None → is_number (number_in o) n ≡ true → has_number writes n ≡ true
  come_within None h k = absurd (cc)
  come_within (Some s) h k = subst (λ m. has_number writes m ≡ true) (eqb-true s.written n k) (by (has_number writes s.written) h)
    where
      by : (b : Bool) → (if b then None else Some s) ≡ None → b ≡ true
      by true e = refl
      by false e = absurd (cc)

  -- a side that makes a difference has the number that it has
  gone_kept : (o : Option Side) → is_number (number_in o) n ≡ true → has_number writes n ≡ true → kept_side true writes o ≡ o
  gone_kept None k h = refl
  gone_kept (Some s) k h = by (has_number writes s.written) (subst (λ m. has_number writes m ≡ true) (sym (eqb-true s.written n k)) h)
    where
      by : (b : Bool) → b ≡ true → (if b then Some s else None) ≡ Some s
      by true e = refl
      by false e = absurd (cc)

  come_kept : (o : Option Side) → is_number (number_in o) n ≡ true → has_number writes n ≡ false → kept_side false writes o ≡ o
  come_kept None k h = refl
  come_kept (Some s) k h = by (has_number writes s.written) (subst (λ m. has_number writes m ≡ false) (sym (eqb-true s.written n k)) h)
    where
      by : (b : Bool) → b ≡ false → (if b then None else Some s) ≡ Some s
      by false e = refl
      by true e = absurd (cc)

  -- and of no other number
  not_kept : (has : Bool) (o : Option Side) → is_number (number_in o) n ≡ false → is_number (number_in (kept_side has writes o)) n ≡ false
  not_kept has None h = refl
  not_kept true (Some s) h = by (has_number writes s.written)
    where
      by : (b : Bool) → is_number (number_in (if b then Some s else None)) n ≡ false
      by true = h
      by false = refl
  not_kept false (Some s) h = by (has_number writes s.written)
    where
      by : (b : Bool) → is_number (number_in (if b then None else Some s)) n ≡ false
      by true = refl
      by false = h

  -- a side that makes no difference has no number there
  gone_dropped : (o : Option Side) → has_number writes n ≡ false → is_number (number_in (kept_side true writes o)) n ≡ false
  gone_dropped None h = refl
  gone_dropped (Some s) h = by (has_number writes s.written) refl
    where
      by : (b : Bool) → has_number writes s.written ≡ b → is_number (number_in (if b then Some s else None)) n ≡ false
      by false e = refl
      by true e = other (s.written == n) refl
        where
          other : (c : Bool) → (s.written == n) ≡ c → c ≡ false
          other false f = refl
          other true f = absurd (both_ways (has_number writes n) h (subst (λ m. has_number writes m ≡ true) (eqb-true s.written n f) e))

-- numbers shifted by the sides that make a difference are shifted by all
pub changed_shifted : (change : Change) (writes : List ℕ) → AreTwo change → (n : ℕ)
    → changed_number (number_in (kept_side true writes change.gone)) (number_in (kept_side false writes change.come)) writes n
    ≡ shifted (number_in change.gone) (number_in change.come) (has_number writes n) n
changed_shifted change writes two n = by (is_number (number_in change.come) n) refl (is_number (number_in change.gone) n) refl (has_number writes n) refl
  where
    by : (c : Bool) → is_number (number_in change.come) n ≡ c → (g : Bool) → is_number (number_in change.gone) n ≡ g → (b : Bool) → has_number writes n ≡ b
        → changed_number (number_in (kept_side true writes change.gone)) (number_in (kept_side false writes change.come)) writes n
        ≡ shifted (number_in change.gone) (number_in change.come) (has_number writes n) n
    by true c true g b h = absurd (two n g c)
    by true c false g true h = rw (c, not_kept writes n true change.gone g, h) (either (is_number (number_in (kept_side false writes change.come)) n))
      where
        either : (x : Bool) → (if x then true else true) ≡ true
        either true = refl
        either false = refl
    by true c false g false h = rw (c, come_kept writes n change.come c h, c) refl
    by false c true g true h = rw (c, g, not_kept writes n false change.come c, gone_kept writes n change.gone g h, g) refl
    by false c true g false h = rw (c, g, not_kept writes n false change.come c, gone_dropped writes n change.gone h, h) refl
    by false c false g b h = rw (c, g, not_kept writes n false change.come c, not_kept writes n true change.gone g) refl

-- ---- the windows

module _ (k : PayloadType) (t : ℤ) where
  under_left : (xs ys : List TypeEntries) → any_covers_at (entries_under xs k) t ≡ true → any_covers_at (entries_under (xs ++ ys) k) t ≡ true
  under_left xs ys h = rw (flat_map-append) (any_left (entries_under xs k) (entries_under ys k) t h)

  under_right : (xs ys : List TypeEntries) → any_covers_at (entries_under ys k) t ≡ true → any_covers_at (entries_under (xs ++ ys) k) t ≡ true
  under_right xs ys h = rw (flat_map-append) (any_right (entries_under xs k) (entries_under ys k) t h)

-- a side that makes a difference is the side
pub kept_is : (has : Bool) (writes : List ℕ) (o : Option Side) (s : Side) → kept_side has writes o ≡ Some s → o ≡ Some s
kept_is has writes None s h = absurd (cc)
kept_is true writes (Some x) s h = by (has_number writes x.written) h
  where
    by : (b : Bool) → (if b then Some x else None) ≡ Some s → Some x ≡ Some s
    by true e = e
    by false e = absurd (cc)
kept_is false writes (Some x) s h = by (has_number writes x.written) h
  where
    by : (b : Bool) → (if b then None else Some x) ≡ Some s → Some x ≡ Some s
    by false e = e
    by true e = absurd (cc)

of_side : (o : Option Side) (n : ℕ) → is_number (number_in o) n ≡ true → (s : Side) × (o ≡ Some s) × (n ≡ s.written)
of_side None n h = absurd (cc)
of_side (Some s) n h = (s, refl, sym (eqb-true s.written n h))

-- where the writes differ, the sides that make a difference have the entries
pub windows_are : (change : Change) (writes others : List ℕ) (tie : Tie) (events : List Written)
    → ((n : ℕ) → has_number others n ≡ changed_number (number_in (kept_side true writes change.gone)) (number_in (kept_side false writes change.come)) writes n)
    → AreSidesOf tie events change
    → AreWindowsOf events writes others (entries_under (entries_in (kept_side true writes change.gone) ++ entries_in (kept_side false writes change.come)))
windows_are change writes others tie events numbers sides w m = by (is_number (number_in (kept_side true writes change.gone)) w.written) refl (is_number (number_in (kept_side false writes change.come)) w.written) refl
  where
    covered : (s : Side) → HasEntriesOf tie events s → w.written ≡ s.written → (k : PayloadType) (t : ℤ) → any_covers_at (entries_of k w) t ≡ true → any_covers_at (entries_under s.entries.items k) t ≡ true
    covered s h same k t c = ap (λ es. any_covers_at es t) (h w m same k) ∙ any_ranked tie (entries_of k w) t ∙ c

    by : (g : Bool) → is_number (number_in (kept_side true writes change.gone)) w.written ≡ g → (c : Bool) → is_number (number_in (kept_side false writes change.come)) w.written ≡ c
        → (has_number writes w.written ≡ has_number others w.written)
        ⊎ ((k : PayloadType) (t : ℤ) → any_covers_at (entries_of k w) t ≡ true → any_covers_at (entries_under (entries_in (kept_side true writes change.gone) ++ entries_in (kept_side false writes change.come)) k) t ≡ true)
    by true g c e =
        let r = of_side (kept_side true writes change.gone) w.written g in
        inr (λ k t h. under_left k t (entries_in (kept_side true writes change.gone)) (entries_in (kept_side false writes change.come))
        (subst (λ o. any_covers_at (entries_under (entries_in o) k) t ≡ true) (sym r.1)
        (covered r.0 (sides r.0 (inl (kept_is true writes change.gone r.0 r.1))) r.2 k t h)))
    by false g true c =
        let r = of_side (kept_side false writes change.come) w.written c in
        inr (λ k t h. under_right k t (entries_in (kept_side true writes change.gone)) (entries_in (kept_side false writes change.come))
        (subst (λ o. any_covers_at (entries_under (entries_in o) k) t ≡ true) (sym r.1)
        (covered r.0 (sides r.0 (inr (kept_is false writes change.come r.0 r.1))) r.2 k t h)))
    by false g false c = inl (sym (numbers w.written ∙ rw (c, g) refl))

-- ---- the group

module _ (change : Change) (indexes : Indexes) (g : Lines) where
  -- where neither makes a difference the group stays
  pub becomes_itself : kept_side true g.writes change.gone ≡ None → kept_side false g.writes change.come ≡ None → Becomes change indexes g g
  becomes_itself gone come = record {
    writes = λ n. by n (is_number (number_in change.come) n) refl (is_number (number_in change.gone) n) refl;
    right = λ tie events i s r. r;
  }
    where
      by : (n : ℕ) (c : Bool) → is_number (number_in change.come) n ≡ c → (b : Bool) → is_number (number_in change.gone) n ≡ b
          → has_number g.writes n ≡ shifted (number_in change.gone) (number_in change.come) (has_number g.writes n) n
      by n true c b e = come_within g.writes n change.come come c ∙ sym (rw c refl)
      by n false c true b = gone_without g.writes n change.gone gone b ∙ sym (rw (c, b) refl)
      by n false c false b = sym (rw (c, b) refl)

  -- where one does it is repaired
  pub becomes_repaired : (h : Lines) → AreTwo change
      → ((n : ℕ) → has_number h.writes n ≡ changed_number (number_in (kept_side true g.writes change.gone)) (number_in (kept_side false g.writes change.come)) g.writes n)
      → ((tie : Tie) (events : List Written) → IsIndexOf tie events indexes
      → AreWindowsOf events g.writes h.writes (entries_under (entries_in (kept_side true g.writes change.gone) ++ entries_in (kept_side false g.writes change.come)))
      → IsRightOf tie events g → IsRightOf tie events h)
      → Becomes change indexes g h
  becomes_repaired h two numbers repaired = record {
    writes = λ n. numbers n ∙ changed_shifted change g.writes two n;
    right = λ tie events i s r. repaired tie events i (windows_are change g.writes h.writes tie events numbers s) r;
  }

  -- and what it becomes stays so
  pub becomes_still : (h : Lines) → Becomes change indexes g h → Becomes change indexes h h
  becomes_still h b = record {
    writes = λ n. b.writes n ∙ sym (shifted_again (number_in change.gone) (number_in change.come) n (has_number g.writes n)) ∙ ap (λ x. shifted (number_in change.gone) (number_in change.come) x n) (sym (b.writes n));
    right = λ tie events i s r. r;
  }
