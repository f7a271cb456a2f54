-- What is seen inside windows.
use Rattle.std.proofs.Common.{◌≡◌, ℕ, ◌+◌, ◌≤◌, ℤ, Bool, true, false, cond, if◌then◌else◌, ◌&&◌, ◌||◌, List, [], ◌∷◌, ◌++◌, take, drop, Option, None, refl, ap, sym, ◌∙◌, arith}
use Rattle.std.proofs.lemmas.List.{take-append-drop}
use Rattle.std.proofs.lemmas.Bool.{and_parts}
use Rattle.adr_time.specs.Spans.{covers, meets, is_before}
use Rattle.adr_time.specs.declared.span.Span.{Span}
use Rattle.adr_model.specs.declared.entry.Entry.{Entry}
use Rattle.adr_model.specs.declared.timeline.Winner.{Winner}
use Rattle.adr_model.specs.Entries.{meeting}
use Rattle.adr_timeline.specs.Build.{most_compared, most_compared_all}
use Rattle.adr_timeline.specs.Windows.{all_last, any_covers, are_apart, is_followed_by}
use Rattle.adr_lines.specs.Grouped.{any_covers_at}
use Rattle.adr_lines.specs.Right.{has_number, written_in}
use Rattle.adr_group.specs.Repair.{most_inside}

-- ---- the entries that meet a window

module _ (window : Span) (ws : List ℕ) where
  -- those of the writes among those that meet it are those that meet it among those of the writes
  pub written_meeting : (es : List Entry) → written_in ws (meeting es window) ≡ meeting (written_in ws es) window
  written_meeting [] = refl
  written_meeting (e ∷ es) = by (meets e.span window) (has_number ws e.rank.written) refl refl (written_meeting es)
    where
      by : (m h : Bool) → meets e.span window ≡ m → has_number ws e.rank.written ≡ h
          → written_in ws (meeting es window) ≡ meeting (written_in ws es) window
          → written_in ws (cond m (e ∷ meeting es window) (meeting es window)) ≡ meeting (cond h (e ∷ written_in ws es) (written_in ws es)) window
      by true true m h rest = rw (m, h) (ap (λ (r : List Entry). e ∷ r) rest)
      by true false m h rest = rw h rest
      by false true m h rest = rw m rest
      by false false m h rest = rest

-- ---- windows in two parts

pub covers_append : (xs ys : List Span) (t : ℤ) → any_covers (xs ++ ys) t ≡ (any_covers xs t || any_covers ys t)
covers_append [] ys t = refl
covers_append (x ∷ xs) ys t = either (covers x t) (covers_append xs ys t)
  where
    either : (c : Bool) → any_covers (xs ++ ys) t ≡ (any_covers xs t || any_covers ys t) → (c || any_covers (xs ++ ys) t) ≡ ((c || any_covers xs t) || any_covers ys t)
    either true h = refl
    either false h = h

pub entries_append : (xs ys : List Entry) (t : ℤ) → any_covers_at (xs ++ ys) t ≡ (any_covers_at xs t || any_covers_at ys t)
entries_append [] ys t = refl
entries_append (x ∷ xs) ys t = either (covers x.span t) (entries_append xs ys t)
  where
    either : (c : Bool) → any_covers_at (xs ++ ys) t ≡ (any_covers_at xs t || any_covers_at ys t) → (c || any_covers_at (xs ++ ys) t) ≡ ((c || any_covers_at xs t) || any_covers_at ys t)
    either true h = refl
    either false h = h

-- windows that are apart last
pub apart_last : (ws : List Span) → are_apart ws ≡ true → all_last ws ≡ true
apart_last [] h = refl
apart_last (w ∷ ws) h =
    let parts = and_parts (is_before w.start w.end && is_followed_by w ws) (are_apart ws) h in
    rw ((and_parts (is_before w.start w.end) (is_followed_by w ws) parts.0).0, apart_last ws parts.1) refl

-- what was built replaces the rest in windows, however they are put together
pub wide_shown : (m n : Bool) (w : Option Winner) (built inner shown : Option Winner) → n ≡ m → built ≡ (if m then w else None) → shown ≡ (if n then built else inner) → shown ≡ (if m then w else inner)
wide_shown true n w built inner shown same b s = s ∙ (rw (same, b) refl)
wide_shown false n w built inner shown same b s = s ∙ (rw same refl)

pub compared_append : (es : List Entry) (xs ys : List Span) → most_compared_all es (xs ++ ys) ≡ most_compared_all es xs + most_compared_all es ys
compared_append es [] ys = omega arith
compared_append es (x ∷ xs) ys = ap (λ n. most_compared es x + n) (compared_append es xs ys) ∙ (omega arith)

pub inside_append : (ws : List ℕ) (es : List Entry) (xs ys : List Entry) → most_inside ws es (xs ++ ys) ≡ most_inside ws es xs + most_inside ws es ys
inside_append ws es [] ys = omega arith
inside_append ws es (x ∷ xs) ys = ap (λ n. most_compared (written_in ws es) x.span + n) (inside_append ws es xs ys) ∙ (omega arith)

last_append : (xs ys : List Span) → all_last (xs ++ ys) ≡ (all_last xs && all_last ys)
last_append [] ys = refl
last_append (x ∷ xs) ys = either (is_before x.start x.end) (last_append xs ys)
  where
    either : (c : Bool) → all_last (xs ++ ys) ≡ (all_last xs && all_last ys) → (c && all_last (xs ++ ys)) ≡ ((c && all_last xs) && all_last ys)
    either true h = h
    either false h = refl

-- ---- the first half for all

pub same_halves : (front back all : List Entry) (t : ℤ) → all ≡ front ++ back → any_covers_at front t ≡ any_covers_at back t → any_covers_at front t ≡ any_covers_at all t
same_halves front back all t is same = both (any_covers_at front t) (any_covers_at back t) same ∙ sym (ap (λ (es : List Entry). any_covers_at es t) is ∙ entries_append front back t)
  where
    both : (a b : Bool) → a ≡ b → a ≡ (a || b)
    both true b h = refl
    both false b h = h

pub half_inside : (front back all : List Entry) (ws : List ℕ) (es : List Entry) → all ≡ front ++ back → most_inside ws es front ≤ most_inside ws es all
half_inside front back all ws es is =
    let split : most_inside ws es all ≡ most_inside ws es front + most_inside ws es back = ap (λ (xs : List Entry). most_inside ws es xs) is ∙ inside_append ws es front back in
    omega (arith, split)

pub halves : (front back all : List Entry) (n : ℕ) → front ≡ take n all → back ≡ drop n all → all ≡ front ++ back
halves front back all n f b = rw (f, b) (sym (take-append-drop n all))

-- ---- windows that last

-- what was found of the windows before those that are left
pub record AreLasting (windows left : List Entry) (spans : List Span) : Type 0 where
  pub covers : (t : ℤ) → (any_covers spans t || any_covers_at left t) ≡ any_covers_at windows t
  pub last : all_last spans ≡ true
  pub cost : (ws : List ℕ) (es : List Entry) → most_compared_all (written_in ws es) spans + most_inside ws es left ≤ most_inside ws es windows

module _ (windows left more : List Entry) (e : Entry) (spans new : List Span) (is : left ≡ e ∷ more) (so_far : AreLasting windows left spans) where
  pub lasting_taken : is_before e.span.start e.span.end ≡ true → new ≡ spans ++ e.span ∷ [] → AreLasting windows more new
  lasting_taken n made = record {
    covers = λ t. ap (λ (xs : List Span). any_covers xs t || any_covers_at more t) made
        ∙ (ap (λ b. b || any_covers_at more t) (covers_append spans (e.span ∷ []) t)
        ∙ (or_rest (any_covers spans t) (covers e.span t) (any_covers_at more t)
        ∙ (ap (λ (es : List Entry). any_covers spans t || any_covers_at es t) (sym is) ∙ so_far.covers t)));
    last = ap all_last made ∙ (last_append spans (e.span ∷ []) ∙ (rw (so_far.last, n) refl));
    cost = λ ws es.
        let new_cost : most_compared_all (written_in ws es) new ≡ most_compared_all (written_in ws es) spans + most_compared_all (written_in ws es) (e.span ∷ []) = ap (λ (xs : List Span). most_compared_all (written_in ws es) xs) made ∙ compared_append (written_in ws es) spans (e.span ∷ []) in
        let split : most_inside ws es left ≡ most_compared (written_in ws es) e.span + most_inside ws es more = ap (λ (xs : List Entry). most_inside ws es xs) is in
        omega (arith, new_cost, split, so_far.cost ws es);
  }
    where
      or_rest : (a b c : Bool) → ((a || (b || false)) || c) ≡ (a || (b || c))
      or_rest true b c = refl
      or_rest false true c = refl
      or_rest false false c = refl

-- ---- run by run

pub record IsParted (run more all : List Span) : Type 0 where
  pub whole : all ≡ run ++ more
  pub last : all_last more ≡ true

pub parted : (run more all : List Span) (n : ℕ) → run ≡ take n all → more ≡ drop n all → all_last all ≡ true → IsParted run more all
parted run more all n r m lasting =
    let whole : all ≡ run ++ more = rw (r, m) (sym (take-append-drop n all)) in
    record { whole = whole; last = (and_parts (all_last run) (all_last more) (sym (last_append run more) ∙ (ap all_last (sym whole) ∙ lasting))).1 }

pub parted_cost : (es : List Entry) (run more all : List Span) → IsParted run more all → most_compared_all es all ≡ most_compared_all es run + most_compared_all es more
parted_cost es run more all p = ap (λ (xs : List Span). most_compared_all es xs) p.whole ∙ compared_append es run more

module _ (w inner new total : ℤ → Option Winner) (run more all : List Span) where
  -- what a run of spans shows goes in, and nothing else changes
  pub run_taken : IsParted run more all → ((t : ℤ) → new t ≡ (if any_covers run t then w t else inner t))
      → ((t : ℤ) → (if any_covers all t then w t else inner t) ≡ total t)
      → (t : ℤ) → (if any_covers more t then w t else new t) ≡ total t
  run_taken p made whole t =
      by (any_covers more t) (any_covers run t) (made t)
      ∙ (ap (λ b. if b then w t else inner t) (sym (ap (λ (xs : List Span). any_covers xs t) p.whole ∙ covers_append run more t))
      ∙ whole t)
    where
      by : (a b : Bool) → new t ≡ (if b then w t else inner t) → (if a then w t else new t) ≡ (if b || a then w t else inner t)
      by true true h = refl
      by true false h = refl
      by false true h = h
      by false false h = h
