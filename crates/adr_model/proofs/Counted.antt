-- No payload type has more entries than are counted.
use Rattle.std.proofs.Common.{◌≡◌, ℕ, ◌+◌, ◌≤◌, ◌||◌, Bool, true, false, cond, if◌then◌else◌, List, [], ◌∷◌, length, refl, ap, sym, ◌∙◌, length-append, arith}
use Rattle.std.specs.Bool.{then_some}
use Rattle.std.specs.List.{list_any, zip, filter_map, enumerate_from, cons_option, AllByRecursion, IsDistinct}
use Rattle.std.specs.Prelude.{flat_map, sum_by}
use Rattle.std.specs.Result.{result_unwrap_or}
use Rattle.std.specs.Str.{bytes_eq}
use Rattle.std.proofs.lemmas.List.Concat.{flat_map-cons}
use Rattle.std.proofs.lemmas.List.Sums.{sum_by-cons}
use Rattle.adr_value.specs.Payload.{name_of}
use Rattle.adr_value.specs.Same.{same_type}
use Rattle.adr_value.specs.declared.payload.PayloadType.{PayloadType}
use Rattle.adr_time.specs.declared.span.Span.{Span}
use Rattle.adr_object.specs.declared.event.Interval.{Interval}
use Rattle.adr_object.specs.declared.event.Payload.{Payload}
use Rattle.adr_model.specs.declared.entry.Entry.{Entry}
use Rattle.adr_model.specs.declared.written.Written.{Written}
use Rattle.adr_model.specs.Edits.{distinct_types, entry_count}
use Rattle.adr_model.specs.Governor.{entries_of, entry_at}
use Rattle.adr_model.specs.Layout.{layout}
use Rattle.adr_model.specs.Rank.{carries}
use Rattle.adr_model.specs.Within.{EntriesAreCounted, TypesAreCounted}
use Rattle.adr_model.proofs.Lists.{same_bytes}

-- ---- sums

sum-both : {X : Type 0} (f g h : X → ℕ) (xs : List X) → ((x : X) → f x ≤ g x + h x) → sum_by f xs ≤ sum_by g xs + sum_by h xs
sum-both f g h [] le = omega arith
sum-both f g h (x ∷ xs) le =
    omega (arith, sum-both f g h xs le, le x, sum_by-cons f x xs, sum_by-cons g x xs, sum_by-cons h x xs)

sum-none : {X : Type 0} (xs : List X) → sum_by (λ x. 0) xs ≡ 0
sum-none [] = refl
sum-none (x ∷ xs) = omega (arith, sum_by-cons (λ y. 0) x xs, sum-none xs)

-- ---- of distinct types no more are carried than are counted

abbrev one : Bool → ℕ
one b = cond b 1 0

one-more : (a b : Bool) → one (a || b) ≤ one a + one b
one-more true b = omega arith
one-more false b = omega arith

-- what is of a type alike is no type after it
none_alike : (p k : PayloadType) (ks : List PayloadType) → same_type p k ≡ true → AllByRecursion (λ j. same_type k j ≡ false) ks → sum_by (λ j. one (same_type p j)) ks ≡ 0
none_alike p k [] same apart = refl
none_alike p k (j ∷ js) same apart =
    let moved : same_type p j ≡ same_type k j = ap (λ n. bytes_eq n (name_of j)) (same_bytes (name_of p) (name_of k) same) in
    let here : one (same_type p j) ≡ 0 = ap one (moved ∙ apart.0) in
    omega (arith, sum_by-cons (λ i. one (same_type p i)) j js, here, none_alike p k js same apart.1)

one_alike : (p : PayloadType) (ks : List PayloadType) → IsDistinct same_type ks → sum_by (λ j. one (same_type p j)) ks ≤ 1
unfolding IsDistinct
one_alike p [] d = omega arith
one_alike p (k ∷ ks) d = by (same_type p k) refl (sum_by-cons (λ j. one (same_type p j)) k ks) (one_alike p ks d.1)
  where
    by : (b : Bool) → same_type p k ≡ b → sum_by (λ j. one (same_type p j)) (k ∷ ks) ≡ one b + sum_by (λ j. one (same_type p j)) ks → sum_by (λ j. one (same_type p j)) ks ≤ 1
        → sum_by (λ j. one (same_type p j)) (k ∷ ks) ≤ 1
    by true same whole rest = let none : sum_by (λ j. one (same_type p j)) ks ≡ 0 = none_alike p k ks same d.0 in omega (arith, whole, none)
    by false same whole rest = omega (arith, whole, rest)

-- how many of the types the payloads have
abbrev had : List Payload → List PayloadType → ℕ
had ps ks = sum_by (λ k. one (list_any (λ p. same_type p.kind k) ps)) ks

-- a type that comes again adds none
again : (p : Payload) (ps : List Payload) → list_any (λ q. same_type q.kind p.kind) ps ≡ true → (k : PayloadType) → (same_type p.kind k || list_any (λ q. same_type q.kind k) ps) ≡ list_any (λ q. same_type q.kind k) ps
again p ps there k = by (same_type p.kind k) refl
  where
    moved : same_type p.kind k ≡ true → list_any (λ q. same_type q.kind k) ps ≡ true
    moved same = ap (λ n. list_any (λ (q : Payload). bytes_eq (name_of q.kind) n) ps) (sym (same_bytes (name_of p.kind) (name_of k) same)) ∙ there

    by : (b : Bool) → same_type p.kind k ≡ b → (b || list_any (λ q. same_type q.kind k) ps) ≡ list_any (λ q. same_type q.kind k) ps
    by true same = sym (moved same)
    by false same = refl

few_types : (ps : List Payload) (ks : List PayloadType) → IsDistinct same_type ks → had ps ks ≤ distinct_types ps
few_types [] ks d = omega (arith, sum-none ks)
few_types (p ∷ ps) ks d = by (list_any (λ q. same_type q.kind p.kind) ps) refl (few_types ps ks d)
  where
    by : (b : Bool) → list_any (λ q. same_type q.kind p.kind) ps ≡ b → sum_by (λ k. one (list_any (λ q. same_type q.kind k) ps)) ks ≤ distinct_types ps
        → sum_by (λ k. one (same_type p.kind k || list_any (λ q. same_type q.kind k) ps)) ks ≤ (if b then distinct_types ps else (distinct_types ps + 1))
    by true there rest =
        let same = sum-both (λ k. one (same_type p.kind k || list_any (λ q. same_type q.kind k) ps)) (λ k. one (list_any (λ q. same_type q.kind k) ps)) (λ k. 0) ks
        (λ k. let e = ap one (again p ps there k) in omega (arith, e)) in
        omega (arith, same, sum-none ks, rest)
    by false there rest =
        let both = sum-both (λ k. one (same_type p.kind k || list_any (λ q. same_type q.kind k) ps)) (λ k. one (same_type p.kind k)) (λ k. one (list_any (λ q. same_type q.kind k) ps)) ks
        (λ k. one-more (same_type p.kind k) (list_any (λ q. same_type q.kind k) ps)) in
        let alike : sum_by (λ k. one (same_type p.kind k)) ks ≤ 1 = one_alike p.kind ks d in
        omega (arith, both, alike, rest)

-- ---- the entries of an event

-- the intervals that are laid out there, each an entry where it carries the type
abbrev laid : Written → ℕ → List Interval → List Span → PayloadType → List Entry
laid w n is spans k = filter_map (λ p. then_some (carries p.1.0 k) (entry_at w p.0 p.1.1)) (enumerate_from n (zip is spans))

laid_few : (w : Written) (n : ℕ) (is : List Interval) (spans : List Span) (ks : List PayloadType) → IsDistinct same_type ks
    → sum_by (λ k. length (laid w n is spans k)) ks ≤ sum_by (λ i. distinct_types i.payloads) is
laid_few w n [] spans ks d = omega (arith, sum-none ks)
laid_few w n (i ∷ is) [] ks d = omega (arith, sum-none ks)
laid_few w n (i ∷ is) (s ∷ spans) ks d =
    let both = sum-both (λ k. length (laid w n (i ∷ is) (s ∷ spans) k)) (λ k. one (carries i k)) (λ k. length (laid w (n + 1) is spans k)) ks
    (λ k. by k (carries i k)) in
    let here : sum_by (λ k. one (carries i k)) ks ≤ distinct_types i.payloads = few_types i.payloads ks d in
    let rest = laid_few w (n + 1) is spans ks d in
    let whole = sum_by-cons (λ (j : Interval). distinct_types j.payloads) i is in
    omega (arith, both, here, rest, whole)
  where
    by : (k : PayloadType) (b : Bool) → length (cons_option (then_some b (entry_at w n s)) (laid w (n + 1) is spans k)) ≤ one b + length (laid w (n + 1) is spans k)
    by k true = omega arith
    by k false = omega arith

pub types_are_counted : TypesAreCounted
types_are_counted w ks d = laid_few w 0 w.event.intervals (result_unwrap_or (layout w.event) []) ks d

pub entries_are_counted : EntriesAreCounted
unfolding IsDistinct
entries_are_counted [] k = omega arith
entries_are_counted (w ∷ events) k =
    let parts : length (flat_map (entries_of k) (w ∷ events)) ≡ length (entries_of k w) + length (flat_map (entries_of k) events) =
    ap (λ (es : List Entry). length es) (flat_map-cons (entries_of k) w events) ∙ length-append (entries_of k w) (flat_map (entries_of k) events) in
    let whole = sum_by-cons (λ (v : Written). entry_count v.event) w events in
    let first = types_are_counted w (k ∷ []) (tt, tt) in
    let alone = sum_by-cons (λ (j : PayloadType). length (entries_of j w)) k [] in
    let rest = entries_are_counted events k in
    omega (arith, parts, whole, first, alone, rest)
