-- Windows that touch, put together.
use Rattle.std.proofs.Common.{◌≡◌, ◌∷◌, ◌++◌, ◌&&◌, ◌||◌, ℤ, int_le, int_lt, Bool, true, false, List, [], length, refl, ap, sym, ◌∙◌, arith}
use Rattle.std.proofs.lemmas.Int.{ints}
use Rattle.std.proofs.lemmas.Bool.{and_parts}
use Rattle.std.proofs.lemmas.List.{append_assoc}
use Rattle.adr_time.specs.Spans.{covers, is_before, lasts}
use Rattle.adr_time.specs.declared.span.End.{End}
use Rattle.adr_time.specs.declared.span.End.TheVariants.{At, Endless}
use Rattle.adr_time.specs.declared.span.Span.{Span}
use Rattle.adr_timeline.specs.Windows.{all_last, any_covers, are_apart, is_followed_by}

covers_append : (xs ys : List Span) (t : ℤ) → any_covers (xs ++ ys) t ≡ (any_covers xs t || any_covers ys t)
covers_append [] ys t = refl
covers_append (x ∷ xs) ys t = either (covers x t) (covers_append xs ys t)
  where
    either : (c : Bool) → any_covers (xs ++ ys) t ≡ (any_covers xs t || any_covers ys t) → (c || any_covers (xs ++ ys) t) ≡ ((c || any_covers xs t) || any_covers ys t)
    either true h = refl
    either false h = h

last_append : (xs ys : List Span) → all_last (xs ++ ys) ≡ (all_last xs && all_last ys)
last_append [] ys = refl
last_append (x ∷ xs) ys = either (is_before x.start x.end) (last_append xs ys)
  where
    either : (c : Bool) → all_last (xs ++ ys) ≡ (all_last xs && all_last ys) → (c && all_last (xs ++ ys)) ≡ ((c && all_last xs) && all_last ys)
    either true h = h
    either false h = refl

-- ---- a window and the one that starts where it ends

module _ (a b : ℤ) where
  lasts_longer : (e : End) → int_lt a b ≡ true → is_before b e ≡ true → is_before a e ≡ true
  lasts_longer (At u) h k = grind (arith, ints)
  lasts_longer Endless h k = refl

  covers_both : (e : End) (t : ℤ) (m : Bool) → int_lt a b ≡ true → is_before b e ≡ true
      → ((int_le a t && is_before t e) || m) ≡ ((int_le a t && int_lt t b) || ((int_le b t && is_before t e) || m))
  covers_both (At u) t m h k = grind (arith, ints)
  covers_both Endless t m h k = grind (arith, ints)

-- both cover what one over both does
grown_covers : (a : ℤ) (e : End) (s : Span) (t : ℤ) (m : Bool) → e ≡ At s.start → is_before a e ≡ true → is_before s.start s.end ≡ true
    → (covers (record { start = a; end = s.end }) t || m) ≡ (covers (record { start = a; end = e }) t || (covers s t || m))
grown_covers a e s t m here h k = rw here (covers_both a s.start s.end t m (rw here at h) k)

grown_lasts : (a : ℤ) (e : End) (s : Span) → e ≡ At s.start → is_before a e ≡ true → is_before s.start s.end ≡ true → is_before a s.end ≡ true
grown_lasts a e s here h k = lasts_longer a s.start s.end (rw here at h) k

-- one over both stands where they stood
grown_apart : (wide more : List Span) (w s : Span) → is_before w.start s.end ≡ true → are_apart (wide ++ w ∷ s ∷ more) ≡ true → are_apart (wide ++ record { start = w.start; end = s.end } ∷ more) ≡ true
grown_apart [] more w s longer apart =
    let whole = and_parts (lasts w && is_followed_by w (s ∷ more)) (are_apart (s ∷ more)) apart in
    let rest = and_parts (lasts s && is_followed_by s more) (are_apart more) whole.1 in
    let first = and_parts (lasts s) (is_followed_by s more) rest.0 in
    rw (longer, followed more first.1, rest.1) refl
  where
    followed : (ms : List Span) → is_followed_by s ms ≡ true → is_followed_by (record { start = w.start; end = s.end }) ms ≡ true
    followed [] h = refl
    followed (m ∷ ms) h = h
grown_apart (v ∷ wide) more w s longer apart =
    let whole = and_parts (lasts v && is_followed_by v (wide ++ w ∷ s ∷ more)) (are_apart (wide ++ w ∷ s ∷ more)) apart in
    let first = and_parts (lasts v) (is_followed_by v (wide ++ w ∷ s ∷ more)) whole.0 in
    rw (first.0, followed wide first.1, grown_apart wide more w s longer whole.1) refl
  where
    followed : (ws : List Span) → is_followed_by v (ws ++ w ∷ s ∷ more) ≡ true → is_followed_by v (ws ++ record { start = w.start; end = s.end } ∷ more) ≡ true
    followed [] h = h
    followed (x ∷ xs) h = h

-- ---- window by window

-- the wide windows, the one that may grow, and those that are left cover what all cover, and are apart where all are
pub record AreTogether (windows left : List Span) (current : Span) (wide : List Span) : Type 0 where
  pub covers : (t : ℤ) → (any_covers wide t || (covers current t || any_covers left t)) ≡ any_covers windows t
  pub wide_last : all_last wide ≡ true
  pub current_lasts : is_before current.start current.end ≡ true
  pub left_last : all_last left ≡ true
  pub apart : are_apart windows ≡ true → are_apart (wide ++ current ∷ left) ≡ true

module _ (windows left more : List Span) (window current : Span) (wide : List Span) (is : left ≡ window ∷ more) (so_far : AreTogether windows left current wide) where
  abbrev parts : (is_before window.start window.end ≡ true) × (all_last more ≡ true)
  parts = and_parts (is_before window.start window.end) (all_last more) (rw is at so_far.left_last)

  covered : (t : ℤ) → (any_covers wide t || (covers current t || (covers window t || any_covers more t))) ≡ any_covers windows t
  covered t = ap (λ (ss : List Span). any_covers wide t || (covers current t || any_covers ss t)) (sym is) ∙ so_far.covers t

  apart_still : are_apart windows ≡ true → are_apart (wide ++ current ∷ window ∷ more) ≡ true
  apart_still h = ap (λ (ss : List Span). are_apart (wide ++ current ∷ ss)) (sym is) ∙ so_far.apart h

  -- one that starts later begins anew
  pub current_closed : (new : List Span) → new ≡ wide ++ current ∷ [] → AreTogether windows more window new
  current_closed new made = record {
    covers = λ t.
        ap (λ (xs : List Span). any_covers xs t || (covers window t || any_covers more t)) made
        ∙ (ap (λ b. b || (covers window t || any_covers more t)) (covers_append wide (current ∷ []) t)
        ∙ (or_rest (any_covers wide t) (covers current t) (covers window t || any_covers more t) ∙ covered t));
    wide_last = ap all_last made ∙ (last_append wide (current ∷ []) ∙ (rw (so_far.wide_last, so_far.current_lasts) refl));
    current_lasts = parts.0;
    left_last = parts.1;
    apart = λ h.
        ap (λ (xs : List Span). are_apart (xs ++ window ∷ more)) made
        ∙ (ap are_apart (append_assoc wide (current ∷ []) (window ∷ more)) ∙ apart_still h);
  }
    where
      or_rest : (a b c : Bool) → ((a || (b || false)) || c) ≡ (a || (b || c))
      or_rest true b c = refl
      or_rest false true c = refl
      or_rest false false c = refl

  -- one that starts where the last of them ends makes that one longer
  pub current_grown : current.end ≡ At window.start → AreTogether windows more (record { start = current.start; end = window.end }) wide
  current_grown here =
      let longer = grown_lasts current.start current.end window here so_far.current_lasts parts.0 in
      record {
        covers = λ t. ap (λ b. any_covers wide t || b) (grown_covers current.start current.end window t (any_covers more t) here so_far.current_lasts parts.0) ∙ covered t;
        wide_last = so_far.wide_last;
        current_lasts = longer;
        left_last = parts.1;
        apart = λ h. grown_apart wide more current window longer (apart_still h);
      }

pub begun_together : (windows others : List Span) (first : Span) (wide : List Span) → windows ≡ first ∷ others → wide ≡ [] → all_last windows ≡ true → AreTogether windows others first wide
begun_together windows others first wide is none lasting =
    let parts = and_parts (is_before first.start first.end) (all_last others) (rw is at lasting) in
    record {
      covers = λ t. rw (is, none) refl;
      wide_last = rw none refl;
      current_lasts = parts.0;
      left_last = parts.1;
      apart = λ h. rw none (rw is at h);
    }

pub record IsTogether (windows wide : List Span) : Type 0 where
  pub covers : (t : ℤ) → any_covers wide t ≡ any_covers windows t
  pub last : all_last wide ≡ true
  pub apart : are_apart windows ≡ true → are_apart wide ≡ true

-- at the end the last of them is put behind the others
pub together_done : (windows left : List Span) (current : Span) (wide new : List Span) → length left ≡ 0 → AreTogether windows left current wide → new ≡ wide ++ current ∷ [] → IsTogether windows new
together_done windows (s ∷ left) current wide new none so_far made = absurd (cc)
together_done windows [] current wide new none so_far made = record {
  covers = λ t. ap (λ (xs : List Span). any_covers xs t) made ∙ (covers_append wide (current ∷ []) t ∙ so_far.covers t);
  last = ap all_last made ∙ (last_append wide (current ∷ []) ∙ (rw (so_far.wide_last, so_far.current_lasts) refl));
  apart = λ h. ap are_apart made ∙ so_far.apart h;
}

-- windows that are apart last
pub apart_last : (ws : List Span) → are_apart ws ≡ true → all_last ws ≡ true
apart_last [] h = refl
apart_last (w ∷ ws) h =
    let whole = and_parts (lasts w && is_followed_by w ws) (are_apart ws) h in
    rw ((and_parts (lasts w) (is_followed_by w ws) whole.0).0, apart_last ws whole.1) refl
