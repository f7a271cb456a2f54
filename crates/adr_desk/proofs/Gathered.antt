-- The events of some numbers, one after the other, and their entries by payload type.
use Rattle.std.proofs.Common.{◌≡◌, ◌↔◌, ℕ, ℤ, zero, suc, ◌<◌, ◌⊎◌, inl, inr, ◌==◌, ◌||◌, Bool, true, false, cond, List, [], ◌∷◌, ◌++◌, length, map, set, get_or, Option, Some, None, refl, ap, sym, subst, ◌∙◌, append_assoc, append-nil, arith, eqb-true, eq-eqb}
use Rattle.std.specs.List.{position, IsDistinct}
use Rattle.std.specs.List.Sorted.{IsStrictlyIncreasing}
use Rattle.std.specs.Option.{option_map_or}
use Rattle.std.proofs.lemmas.Bool.{both_ways, false_from_ne_true}
use Rattle.std.proofs.lemmas.Grind.{flat_map-append}
use Rattle.std.proofs.lemmas.List.{map-append}
use Rattle.std.proofs.lemmas.List.Quantifiers.{position-Some}
use Rattle.adr_value.specs.Same.{same_type}
use Rattle.adr_value.specs.declared.payload.PayloadType.{PayloadType}
use Rattle.adr_time.specs.Spans.{covers}
use Rattle.adr_store.specs.Numbers.{by_number}
use Rattle.adr_model.specs.declared.entry.Entry.{Entry}
use Rattle.adr_model.specs.declared.entry.Tie.{Tie}
use Rattle.adr_model.specs.declared.written.Written.{Written}
use Rattle.adr_model.specs.Governor.{entries_of}
use Rattle.adr_model.specs.Lists.{In}
use Rattle.adr_model.specs.Rank.{ranked}
use Rattle.adr_model.proofs.Lists.{each_from_In, none_in_part, passing_in, In-filter, In-flat_map, In-from_filter, In-from_flat_map, In-from_map}
use Rattle.adr_lines.specs.declared.grouped.TypeEntries.{TypeEntries}
use Rattle.adr_lines.specs.Grouped.{any_covers_at, entries_under, HaveOwnTypes}
use Rattle.adr_lines.specs.Right.{all_of, has_number}
use Rattle.adr_lines.proofs.Covered.{any_ranked}
use Rattle.adr_lines.proofs.Groups.{none_under, same_as_each}
use Rattle.adr_lines.specs.Exchange.{AreEntriesOf, HaveOwnNumbers}
use Rattle.adr_lines.specs.Indexes.{own_entries}
use Rattle.adr_group.specs.Group.{AreWindowsOf}
use Rattle.adr_regroup.proofs.PartyWindows.{found_number}
use Rattle.adr_desk.specs.Bulk.{chosen, in_turn, numbered}
use Rattle.adr_desk.proofs.Choosing.{ascend_tail, first_below, none_found}

-- ---- a group that is added

-- to the entries of its type at the place
more_at : (types : List TypeEntries) (place : ℕ) (d new g : TypeEntries) (k : PayloadType)
    → place < length types → same_type (get_or types place d).payload_type g.payload_type ≡ true
    → new.payload_type ≡ (get_or types place d).payload_type → new.entries.items ≡ (get_or types place d).entries.items ++ g.entries.items
    → HaveOwnTypes types
    → entries_under (set types place new) k ≡ entries_under types k ++ own_entries g k
unfolding IsDistinct
more_at [] place d new g k within is_type same more own = absurd (omega arith)
more_at (x ∷ types) zero d new g k within is_type same more own =
    ap (λ (p : PayloadType). cond (same_type p k) new.entries.items [] ++ entries_under types k) same
    ∙ by (same_type x.payload_type k) refl (sym (same_as_each x.payload_type g.payload_type k is_type))
  where
    by : (b : Bool) → same_type x.payload_type k ≡ b → same_type g.payload_type k ≡ same_type x.payload_type k
        → cond b new.entries.items [] ++ entries_under types k
        ≡ (cond b x.entries.items [] ++ entries_under types k) ++ own_entries g k
    by true s u =
        rw (none_under x.payload_type k s types own.0, u, s, more)
        (append-nil (x.entries.items ++ g.entries.items) ∙ ap (λ (es : List Entry). es ++ g.entries.items) (sym (append-nil x.entries.items)))
    by false s u = rw (u, s) (sym (append-nil (entries_under types k)))
more_at (x ∷ types) (suc place) d new g k within is_type same more own =
    ap (λ (es : List Entry). own_entries x k ++ es) (more_at types place d new g k (omega arith) is_type same more own.1)
    ∙ sym (append_assoc (own_entries x k) (entries_under types k) (own_entries g k))

module _ (types : List TypeEntries) (place : ℕ) (d new g : TypeEntries)
    (found : position (λ (x : TypeEntries). same_type x.payload_type g.payload_type) types ≡ Some place)
    (same : new.payload_type ≡ (get_or types place d).payload_type) where
  pub entries_there : new.entries.items ≡ (get_or types place d).entries.items ++ g.entries.items
      → HaveOwnTypes types → (k : PayloadType) → entries_under (set types place new) k ≡ entries_under types k ++ own_entries g k
  entries_there more own k =
      let p = position-Some (λ (x : TypeEntries). same_type x.payload_type g.payload_type) types place d found in
      more_at types place d new g k p.0 p.1 same more own

  pub types_there : HaveOwnTypes types → HaveOwnTypes (set types place new)
  types_there own = subst (IsDistinct same_type) (kept types place same) own
    where
      kept : (xs : List TypeEntries) (i : ℕ) → new.payload_type ≡ (get_or xs i d).payload_type
          → map (λ (x : TypeEntries). x.payload_type) xs ≡ map (λ (x : TypeEntries). x.payload_type) (set xs i new)
      kept [] i e = refl
      kept (x ∷ xs) zero e = ap (λ (p : PayloadType). p ∷ map (λ (y : TypeEntries). y.payload_type) xs) (sym e)
      kept (x ∷ xs) (suc i) e = ap (λ (ps : List PayloadType). x.payload_type ∷ ps) (kept xs i e)

pub entries_pushed : (types new : List TypeEntries) (g : TypeEntries) (k : PayloadType) → new ≡ types ++ g ∷ [] → entries_under new k ≡ entries_under types k ++ own_entries g k
entries_pushed types new g k is =
    ap (λ gs. entries_under gs k) is ∙ flat_map-append _ types (g ∷ []) ∙ ap (λ (es : List Entry). entries_under types k ++ es) (append-nil (own_entries g k))

-- then the others
pub next_group : (types new more rest all : List TypeEntries) (g : TypeEntries) (k : PayloadType) (es : List Entry) → rest ≡ g ∷ more
    → entries_under new k ≡ entries_under types k ++ own_entries g k → entries_under types k ++ entries_under rest k ≡ es ++ entries_under all k
    → entries_under new k ++ entries_under more k ≡ es ++ entries_under all k
next_group types new more rest all g k es is one before =
    ap (λ (xs : List Entry). xs ++ entries_under more k) one
    ∙ append_assoc (entries_under types k) (own_entries g k) (entries_under more k)
    ∙ ap (λ gs. entries_under types k ++ entries_under gs k) (sym is)
    ∙ before

-- ---- events one after the other

abbrev pub entries_in_turn : Tie → List Written → List ℕ → PayloadType → List Entry
entries_in_turn tie events numbers k = map (ranked tie) (all_of (in_turn events numbers) k)

both_ranked : (tie : Tie) (ws vs : List Written) (k : PayloadType) → map (ranked tie) (all_of (ws ++ vs) k) ≡ map (ranked tie) (all_of ws k) ++ map (ranked tie) (all_of vs k)
both_ranked tie ws vs k = ap (map (ranked tie)) (flat_map-append (entries_of k) ws vs) ∙ map-append (ranked tie) (all_of ws k) (all_of vs k)

pub next_event : (tie : Tie) (events : List Written) (rest more : List ℕ) (n : ℕ) (k : PayloadType) (before after all : List Entry) → rest ≡ n ∷ more
    → after ≡ before ++ map (ranked tie) (all_of (numbered events n) k) → before ++ entries_in_turn tie events rest k ≡ all → after ++ entries_in_turn tie events more k ≡ all
next_event tie events rest more n k before after all is one held =
    ap (λ (es : List Entry). es ++ entries_in_turn tie events more k) one
    ∙ append_assoc before (map (ranked tie) (all_of (numbered events n) k)) (entries_in_turn tie events more k)
    ∙ ap (λ (es : List Entry). before ++ es) (sym (both_ranked tie (numbered events n) (in_turn events more) k))
    ∙ ap (λ ns. before ++ entries_in_turn tie events ns k) (sym is)
    ∙ held

pub all_in_turn : (tie : Tie) (events : List Written) (rest : List ℕ) (k : PayloadType) (es all : List Entry) → length rest ≡ 0 → es ++ entries_in_turn tie events rest k ≡ all → es ≡ all
all_in_turn tie events [] k es all none held = sym (append-nil es) ∙ held
all_in_turn tie events (n ∷ ns) k es all none held = absurd (omega (arith, none))

-- the entries of the event that has the number
pub one_numbered : (tie : Tie) (events : List Written) (n : ℕ) (w : Written) (k : PayloadType) → by_number events n ≡ Some w
    → map (ranked tie) (all_of (numbered events n) k) ≡ map (ranked tie) (entries_of k w)
one_numbered tie events n w k found =
    ap (λ o. map (ranked tie) (all_of (option_map_or (λ (v : Written). v ∷ []) o []) k)) found ∙ ap (map (ranked tie)) (append-nil (entries_of k w))

pub none_numbered : (tie : Tie) (events : List Written) (n : ℕ) (k : PayloadType) → by_number events n ≡ None → map (ranked tie) (all_of (numbered events n) k) ≡ []
none_numbered tie events n k none = ap (λ o. map (ranked tie) (all_of (option_map_or (λ (v : Written). v ∷ []) o []) k)) none

-- ---- which events they are

from_numbered : (events : List Written) (n : ℕ) (w : Written) → In w (numbered events n) → In w events × (w.written ≡ n)
from_numbered events n w m = by (by_number events n) refl m
  where
    by : (o : Option Written) → by_number events n ≡ o → In w (option_map_or (λ v. v ∷ []) o []) → In w events × (w.written ≡ n)
    by None e h = absurd h
    by (Some v) e (inl same) = subst (λ (u : Written). In u events × (u.written ≡ n)) same (found_number events n v e)
    by (Some v) e (inr h) = absurd h

has_from_In : (numbers : List ℕ) (n : ℕ) → In n numbers → has_number numbers n ≡ true
has_from_In [] n m = absurd m
has_from_In (x ∷ xs) n (inl same) = ap (λ b. b || has_number xs n) (eq-eqb x n same)
has_from_In (x ∷ xs) n (inr m) = by (x == n) (has_from_In xs n m)
  where
    by : (b : Bool) → has_number xs n ≡ true → (b || has_number xs n) ≡ true
    by true h = refl
    by false h = h

from_turn : (events : List Written) (numbers : List ℕ) (w : Written) → In w (in_turn events numbers) → In w events × (has_number numbers w.written ≡ true)
from_turn events numbers w m =
    let r = In-from_flat_map (numbered events) numbers w m in
    let f = from_numbered events r.0 w r.2 in
    (f.0, subst (λ n. has_number numbers n ≡ true) (sym f.1) (has_from_In numbers r.0 r.1))

module _ (events : List Written) (one : (w v : Written) → In w events → In v events → w.written ≡ v.written → w ≡ v) (numbers : List ℕ) where
  into_turn : (w : Written) → In w events → has_number numbers w.written ≡ true → In w (in_turn events numbers)
  into_turn w m h = In-flat_map (numbered events) numbers p.0 w p.1 (by (by_number events p.0) refl)
    where
      p : (n : ℕ) × In n numbers × ((n == w.written) ≡ true)
      p = passing_in (λ n. n == w.written) numbers h

      by : (o : Option Written) → by_number events p.0 ≡ o → In w (option_map_or (λ v. v ∷ []) o [])
      by None e = absurd (none_found events p.0 e w m p.2)
      by (Some v) e =
          let f = found_number events p.0 v e in
          inl (one v w f.0 m (f.1 ∙ eqb-true p.0 w.written p.2))

  pub same_chosen : (w : Written) → In w (in_turn events numbers) ↔ In w (chosen events numbers)
  same_chosen w = (
    λ m. let f = from_turn events numbers w m in In-filter (λ v. has_number numbers v.written) events w f.0 f.1,
    λ m. let f = In-from_filter (λ v. has_number numbers v.written) events w m in into_turn w f.0 f.1,
  )

  -- the entries of an event of the numbers are covered
  pub windows_in_turn : (tie : Tie) (types : List TypeEntries) → AreEntriesOf tie (in_turn events numbers) types → AreWindowsOf events [] numbers (entries_under types)
  windows_in_turn tie types are w m = by (has_number numbers w.written) refl
    where
      Held : Type 0
      Held = (k : PayloadType) (t : ℤ) → any_covers_at (entries_of k w) t ≡ true → any_covers_at (entries_under types k) t ≡ true

      some : In w (in_turn events numbers) → (k : PayloadType) (t : ℤ) → any_covers_at (entries_of k w) t ≡ true → any_covers_at (all_of (in_turn events numbers) k) t ≡ true
      some n k t c = whether (any_covers_at (all_of (in_turn events numbers) k) t) refl
        where
          whether : (b : Bool) → any_covers_at (all_of (in_turn events numbers) k) t ≡ b → b ≡ true
          whether true e = refl
          whether false e =
              absurd (both_ways (any_covers_at (entries_of k w) t)
              (none_in_part (λ (x : Entry). covers x.span t) (entries_of k) (in_turn events numbers) w n e) c)

      by : (b : Bool) → has_number numbers w.written ≡ b → (has_number [] w.written ≡ has_number numbers w.written) ⊎ Held
      by true h = inr (λ k t c.
          ap (λ es. any_covers_at es t) (are k)
          ∙ any_ranked tie (all_of (in_turn events numbers) k) t
          ∙ some (into_turn w m h) k t c)
      by false h = inl (sym h)

-- ascending numbers have events of different numbers
pub apart_in_turn : (events : List Written) (numbers : List ℕ) → IsStrictlyIncreasing numbers → HaveOwnNumbers (in_turn events numbers)
unfolding IsDistinct
apart_in_turn events [] up = tt
apart_in_turn events (n ∷ ns) up = by (by_number events n) refl (apart_in_turn events ns (ascend_tail n ns up))
  where
    above : (w : Written) → w.written ≡ n → (m : ℕ) → In m (map (λ (v : Written). v.written) (in_turn events ns)) → (w.written == m) ≡ false
    above w is m h =
        let r = In-from_map (λ (v : Written). v.written) (in_turn events ns) m h in
        let lower = first_below n ns up r.0.written (from_turn events ns r.0 r.1).1 in
        false_from_ne_true (w.written == m)
        (λ t. let e = eqb-true w.written m t in absurd (omega (arith, e, is, lower, r.2)))

    by : (o : Option Written) → by_number events n ≡ o → HaveOwnNumbers (in_turn events ns) → HaveOwnNumbers (option_map_or (λ v. v ∷ []) o [] ++ in_turn events ns)
    by None e rest = rest
    by (Some w) e rest = (
      each_from_In (λ m. (w.written == m) ≡ false) (map (λ (v : Written). v.written) (in_turn events ns)) (above w (found_number events n w e).1),
      rest,
    )
