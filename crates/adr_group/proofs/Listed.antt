-- Timelines by name, after one is put among them or taken out.
use Rattle.std.proofs.Common.{◌≡◌, ℕ, ℤ, Bool, true, false, not, cond, if◌then◌else◌, List, [], ◌∷◌, ◌++◌, length, Option, Some, None, refl, ap, sym, subst, ◌∙◌, filter, eqb, eqb-true, arith}
use Rattle.std.specs.Option.{option_map_or}
use Rattle.std.specs.Ordering.{is_lt, is_eq, is_gt}
use Rattle.std.specs.Str.{bytes_eq}
use Rattle.std.proofs.lemmas.Bool.{both_ways}
use Rattle.std.proofs.lemmas.Slice.Eq.{bytes_eq-Decides}
use Rattle.adr_value.specs.Payload.{name_of}
use Rattle.adr_value.specs.Same.{same_type}
use Rattle.adr_value.specs.declared.payload.PayloadType.{PayloadType}
use Rattle.adr_shared.specs.Map.{code_cmp, lookup, put, without, below, above}
use Rattle.adr_shared.proofs.LookUps.{put_is_found, taken_is_gone}
use Rattle.adr_model.specs.declared.timeline.Segment.{Segment}
use Rattle.adr_model.specs.declared.timeline.Winner.{Winner}
use Rattle.adr_model.specs.Timeline.{shows}
use Rattle.adr_group.specs.Group.{shown_in, AllShow}

abbrev Line : Type 0
Line = List ℕ × List Segment

-- ---- names that are equal

flipped : (a b : List ℕ) → bytes_eq a b ≡ bytes_eq b a
flipped a b = by (bytes_eq a b) refl (bytes_eq b a) refl
  where
    by : (s : Bool) → bytes_eq a b ≡ s → (r : Bool) → bytes_eq b a ≡ r → s ≡ r
    by true e true f = refl
    by false e false f = refl
    by true e false f = absurd (both_ways (bytes_eq b a) f ((bytes_eq-Decides b a).1 (sym ((bytes_eq-Decides a b).0 e))))
    by false e true f = absurd (both_ways (bytes_eq a b) e ((bytes_eq-Decides a b).1 (sym ((bytes_eq-Decides b a).0 f))))

-- ---- what is shown

abbrev shown_of : ℤ → Option (List Segment) → Option Winner
shown_of t o = option_map_or (λ line. shows line t) o None

pub shown_put : (p k : PayloadType) (t : ℤ) (line : List Segment) (lines : List Line)
    → shown_in (put (name_of p) line lines) k t ≡ (if same_type p k then shows line t else shown_in lines k t)
shown_put p k t line lines =
    ap (shown_of t) (put_is_found lines (name_of p) line (name_of k))
    ∙ ap (λ b. shown_of t (if b then Some line else lookup (name_of k) lines)) (flipped (name_of k) (name_of p))
    ∙ by (same_type p k)
  where
    by : (b : Bool) → shown_of t (if b then Some line else lookup (name_of k) lines) ≡ (if b then shows line t else shown_in lines k t)
    by true = refl
    by false = refl

no_segments : (line : List Segment) → eqb (length line) 0 ≡ true → line ≡ []
no_segments [] h = refl
no_segments (s ∷ ss) h = let e : length (s ∷ ss) ≡ 0 = eqb-true (length (s ∷ ss)) 0 h in absurd (omega arith)

pub shown_without : (p k : PayloadType) (t : ℤ) (line : List Segment) (lines : List Line) → eqb (length line) 0 ≡ true
    → shown_in (without (name_of p) lines) k t ≡ (if same_type p k then shows line t else shown_in lines k t)
shown_without p k t line lines empty =
    ap (shown_of t) (taken_is_gone lines (name_of p) (name_of k))
    ∙ ap (λ b. shown_of t (if b then None else lookup (name_of k) lines)) (flipped (name_of k) (name_of p))
    ∙ by (same_type p k)
  where
    by : (b : Bool) → shown_of t (if b then None else lookup (name_of k) lines) ≡ (if b then shows line t else shown_in lines k t)
    by true = ap (λ (l : List Segment). shows l t) (sym (no_segments line empty))
    by false = refl

-- ---- lines that show something

some_stay : (test : Line → Bool) (lines : List Line) → AllShow lines → AllShow (filter test lines)
some_stay test [] h = tt
some_stay test (l ∷ ls) h = by (test l) (some_stay test ls h.1)
  where
    by : (b : Bool) → AllShow (filter test ls) → AllShow (cond b (l ∷ filter test ls) (filter test ls))
    by true rest = (h.0, rest)
    by false rest = rest

both_show : (ls ms : List Line) → AllShow ls → AllShow ms → AllShow (ls ++ ms)
both_show [] ms h k = k
both_show (l ∷ ls) ms h k = (h.0, both_show ls ms h.1 k)

pub put_shows : (code : List ℕ) (line : List Segment) (lines new : List Line) → new ≡ put code line lines → eqb (length line) 0 ≡ false → AllShow lines → AllShow new
put_shows code line lines new is full h =
    subst (λ (ls : List Line). AllShow ls) (sym is)
    (both_show (below code lines) ((code, line) ∷ above code lines) (some_stay (λ e. is_gt (code_cmp code e.0)) lines h)
    (λ none. both_ways (eqb (length line) 0) full (ap (λ (l : List Segment). eqb (length l) 0) none), some_stay (λ e. is_lt (code_cmp code e.0)) lines h))

pub without_shows : (code : List ℕ) (lines new : List Line) → new ≡ without code lines → AllShow lines → AllShow new
without_shows code lines new is h = subst (λ (ls : List Line). AllShow ls) (sym is) (some_stay (λ e. not (is_eq (code_cmp code e.0))) lines h)

-- a line that is found shows something
pub found_shows : (code : List ℕ) (lines : List Line) (line : List Segment) → AllShow lines → Some line ≡ lookup code lines → line ≡ [] → ⊥
found_shows code [] line h f = absurd (cc)
found_shows code (l ∷ ls) line h f = by (is_eq (code_cmp code l.0)) (found_shows code ls line h.1) f
  where
    by : (b : Bool) → (Some line ≡ lookup code ls → line ≡ [] → ⊥) → Some line ≡ cond b (Some l.1) (lookup code ls) → line ≡ [] → ⊥
    by true later e none = let same : line ≡ l.1 = cc in h.0 (sym same ∙ none)
    by false later e none = later e none
