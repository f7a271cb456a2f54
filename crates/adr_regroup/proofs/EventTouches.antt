-- What repair inside the entries of one event compares, by its touches.
use Rattle.std.proofs.Common.{◌≡◌, inl, inr, ℕ, ◌+◌, ◌*◌, ◌≤◌, ◌&&◌, Bool, true, false, cond, if◌then◌else◌, List, [], ◌∷◌, ◌++◌, length, map, filter_map, sum_by, refl, ap, sym, subst, ◌∙◌, arith}
use Rattle.std.proofs.lemmas.List.Sums.{sum_by-append, sum_by-cons}
use Rattle.std.specs.Bool.{then_some}
use Rattle.std.specs.HashMap.{get_by_text}
use Rattle.std.specs.Option.{option_map_or}
use Rattle.std.specs.List.{cons_option, zip, enumerate_from}
use Rattle.std.specs.Result.{result_unwrap_or}
use Rattle.adr_value.specs.Payload.{name_of}
use Rattle.adr_value.specs.Same.{same_type}
use Rattle.adr_value.specs.declared.payload.PayloadType.{PayloadType}
use Rattle.adr_time.specs.Spans.{is_before, meets}
use Rattle.adr_time.specs.declared.span.Span.{Span}
use Rattle.adr_object.specs.declared.event.Interval.{Interval}
use Rattle.adr_model.specs.declared.entry.Entry.{Entry}
use Rattle.adr_model.specs.declared.entry.Tie.{Tie}
use Rattle.adr_model.specs.declared.touch.Touch.{Touch}
use Rattle.adr_model.specs.declared.written.Written.{Written}
use Rattle.adr_model.specs.Book.{Book}
use Rattle.adr_model.specs.Entries.{meeting}
use Rattle.adr_model.specs.Governor.{entries_for, entries_of, entry_at}
use Rattle.adr_model.specs.Layout.{layout}
use Rattle.adr_model.specs.Lists.{In}
use Rattle.adr_model.specs.Rank.{carries, ranked}
use Rattle.adr_model.specs.Touches.{touches_of, types_of}
use Rattle.adr_model.proofs.Lists.{bytes_eq_self, filter_drops_all, same_bytes}
use Rattle.adr_timeline.specs.Build.{most_compared}
use Rattle.adr_lines.specs.declared.grouped.TypeEntries.{TypeEntries}
use Rattle.adr_lines.specs.Grouped.{entries_under, HaveOwnTypes}
use Rattle.adr_lines.specs.Right.{written_in}
use Rattle.adr_lines.specs.declared.indexes.Indexes.{Indexes}
use Rattle.adr_lines.specs.Indexes.{under}
use Rattle.adr_group.specs.Repair.{most_inside, most_repaired}
use Rattle.adr_regroup.specs.Compared.{most_compared_at, most_compared_in}
use Rattle.adr_regroup.proofs.Carried.{made, made_carried}
use Rattle.adr_regroup.proofs.Sums.{sum_flat, sum_map, sum_nothing, sum_rises}

-- ---- windows that don't last

never_meets : (es : List Entry) (s : Span) → is_before s.start s.end ≡ false → meeting es s ≡ []
never_meets es s h = filter_drops_all (λ (e : Entry). meets e.span s) es (λ e m. rw h (by (is_before e.span.start e.span.end) (is_before e.span.start s.end) (is_before s.start e.span.end)))
  where
    by : (a b c : Bool) → (a && false && b && c) ≡ false
    by true b c = refl
    by false b c = refl

never_compares : (es : List Entry) (s : Span) → is_before s.start s.end ≡ false → most_compared es s ≡ 0
never_compares es s h = ap (λ (xs : List Entry). length xs * (2 * length xs + 1)) (never_meets es s h)

-- ---- the entries of a type, by the intervals

-- those of a group are among those under its type
in_under : (f : Span → ℕ) (gs : List TypeEntries) (g : TypeEntries) → In g gs → sum_by (λ e. f e.span) g.entries.items ≤ sum_by (λ e. f e.span) (entries_under gs g.payload_type)
in_under f [] g m = absurd m
in_under f (h ∷ hs) g (inl e) =
    subst (λ (x : TypeEntries). sum_by (λ y. f y.span) x.entries.items ≤ sum_by (λ y. f y.span) (entries_under (h ∷ hs) x.payload_type)) e
    (subst (λ (b : Bool). sum_by (λ y. f y.span) h.entries.items ≤ sum_by (λ y. f y.span) ((if b then h.entries.items else []) ++ entries_under hs h.payload_type)) (sym (bytes_eq_self (name_of h.payload_type)))
    (let parts = sum_by-append (λ (y : Entry). f y.span) h.entries.items (entries_under hs h.payload_type) in omega (arith, parts)))
in_under f (h ∷ hs) g (inr m) =
    let rest = in_under f hs g m in
    let parts = sum_by-append (λ (y : Entry). f y.span) (if same_type h.payload_type g.payload_type then h.entries.items else []) (entries_under hs g.payload_type) in
    omega (arith, rest, parts)

-- the entries of the type, from that place on
abbrev entries_from : Written → PayloadType → ℕ → List (Interval × Span) → List Entry
entries_from w k n ps = filter_map (λ p. then_some (carries p.1.0 k) (entry_at w p.0 p.1.1)) (enumerate_from n ps)

carried : (f : Span → ℕ) (w : Written) (k : PayloadType) (n : ℕ) (ps : List (Interval × Span))
    → sum_by (λ e. f e.span) (entries_from w k n ps) ≡ sum_by (λ p. cond (carries p.0 k) (f p.1) 0) ps
carried f w k n [] = refl
carried f w k n (p ∷ ps) =
    by (carries p.0 k) (carried f w k (n + 1) ps) ∙ sym (sum_by-cons (λ (q : Interval × Span). cond (carries q.0 k) (f q.1) 0) p ps)
  where
    by : (b : Bool) → sum_by (λ e. f e.span) (entries_from w k (n + 1) ps) ≡ sum_by (λ q. cond (carries q.0 k) (f q.1) 0) ps
        → sum_by (λ e. f e.span) (cons_option (then_some b (entry_at w n p.1)) (entries_from w k (n + 1) ps)) ≡ cond b (f p.1) 0 + sum_by (λ q. cond (carries q.0 k) (f q.1) 0) ps
    by true rest = let first = sum_by-cons (λ (e : Entry). f e.span) (entry_at w n p.1) (entries_from w k (n + 1) ps) in omega (arith, rest, first)
    by false rest = omega (arith, rest)

module _ (writes : List ℕ) (indexes : Indexes) where
  -- what one window of the type compares
  abbrev pub spent : PayloadType → Span → ℕ
  spent k s = most_compared (written_in writes (under indexes k)) s

  spent_alike : (s : Span) (k l : PayloadType) → same_type k l ≡ true → spent k s ≡ spent l s
  spent_alike s k l e =
      ap (λ (i : List ℕ). most_compared (written_in writes (option_map_or (λ x. x.entries) (get_by_text indexes.by_name i) [])) s) (same_bytes (name_of k) (name_of l) e)

  inside_sum : (k : PayloadType) (es : List Entry) → most_inside writes (under indexes k) es ≡ sum_by (λ e. spent k e.span) es
  inside_sum k [] = refl
  inside_sum k (e ∷ es) = ap (λ n. spent k e.span + n) (inside_sum k es) ∙ sym (sum_by-cons (λ (x : Entry). spent k x.span) e es)

  -- ---- type by type, and interval by interval

  abbrev by_type : List (Interval × Span) → List TypeEntries → ℕ
  by_type ps [] = 0
  by_type ps (g ∷ gs) = sum_by (λ p. cond (carries p.0 g.payload_type) (spent g.payload_type p.1) 0) ps + by_type ps gs

  by_type_none : (gs : List TypeEntries) → by_type [] gs ≡ 0
  by_type_none [] = refl
  by_type_none (g ∷ gs) = let rest : by_type [] gs ≡ 0 = by_type_none gs in omega (arith, rest)

  by_type_more : (p : Interval × Span) (ps : List (Interval × Span)) (gs : List TypeEntries) → by_type (p ∷ ps) gs ≡ made (λ k. spent k p.1) (spent_alike p.1) (carries p.0) gs + by_type ps gs
  by_type_more p ps [] = refl
  by_type_more p ps (g ∷ gs) =
      let first = sum_by-cons (λ (q : Interval × Span). cond (carries q.0 g.payload_type) (spent g.payload_type q.1) 0) p ps in
      let rest = by_type_more p ps gs in
      omega (arith, first, rest)

  by_interval : (ps : List (Interval × Span)) (gs : List TypeEntries) → HaveOwnTypes gs → by_type ps gs ≤ sum_by (λ p. sum_by (λ k. spent k p.1) (types_of p.0.payloads)) ps
  by_interval [] gs d = let none = by_type_none gs in omega (arith, none)
  by_interval (p ∷ ps) gs d =
      let more = by_type_more p ps gs in
      let own = made_carried (λ k. spent k p.1) (spent_alike p.1) p.0 gs d in
      let rest = by_interval ps gs d in
      let all = sum_by-cons (λ (q : Interval × Span). sum_by (λ k. spent k q.1) (types_of q.0.payloads)) p ps in
      omega (arith, more, own, rest, all)

  repaired_by_type : (ps : List (Interval × Span)) (gs : List TypeEntries)
      → ((g : TypeEntries) → In g gs → most_inside writes (under indexes g.payload_type) g.entries.items ≤ sum_by (λ p. cond (carries p.0 g.payload_type) (spent g.payload_type p.1) 0) ps)
      → most_repaired gs writes indexes ≤ by_type ps gs
  repaired_by_type ps [] h = omega arith
  repaired_by_type ps (g ∷ gs) h = let first = h g (inl refl) in let rest = repaired_by_type ps gs (λ x m. h x (inr m)) in omega (arith, first, rest)

  -- ---- an event

  module _ (tie : Tie) (w : Written) (groups : List TypeEntries) (own : HaveOwnTypes groups) (are : (k : PayloadType) → entries_under groups k ≡ map (ranked tie) (entries_of k w)) where
    abbrev laid : List (Interval × Span)
    laid = zip w.event.intervals (result_unwrap_or (layout w.event) [])

    group_spent : (g : TypeEntries) → In g groups
        → most_inside writes (under indexes g.payload_type) g.entries.items ≤ sum_by (λ p. cond (carries p.0 g.payload_type) (spent g.payload_type p.1) 0) laid
    group_spent g m =
        let k = g.payload_type in
        let inside = inside_sum k g.entries.items in
        let there = in_under (spent k) groups g m in
        let same : sum_by (λ (e : Entry). spent k e.span) (entries_under groups k) ≡ sum_by (λ (e : Entry). spent k e.span) (map (ranked tie) (entries_of k w)) = ap (sum_by (λ (e : Entry). spent k e.span)) (are k) in
        let spans : sum_by (λ (e : Entry). spent k e.span) (map (ranked tie) (entries_of k w)) ≡ sum_by (λ (e : Entry). spent k e.span) (entries_of k w) = sum_map (λ (e : Entry). spent k e.span) (ranked tie) (entries_of k w) in
        let laid_out = carried (spent k) w k 0 laid in
        omega (arith, inside, there, same, spans, laid_out)

    module _ (book : Book) (id : List ℕ) (no_more : (k : PayloadType) (s : Span) → spent k s ≤ most_compared (entries_for book id k) s) where
      abbrev touched : Interval × Span → List Touch
      touched p = if is_before p.1.start p.1.end then map (λ k. record { resource = id; kind = k; window = p.1 }) (types_of p.0.payloads) else []

      one_interval : (p : Interval × Span) → sum_by (λ k. spent k p.1) (types_of p.0.payloads) ≤ sum_by (most_compared_at book) (touched p)
      one_interval p = by (is_before p.1.start p.1.end) refl
        where
          by : (b : Bool) → is_before p.1.start p.1.end ≡ b
              → sum_by (λ k. spent k p.1) (types_of p.0.payloads) ≤ sum_by (most_compared_at book) (if b then map (λ k. record { resource = id; kind = k; window = p.1 }) (types_of p.0.payloads) else [])
          by true e =
              let less = sum_rises (λ k. spent k p.1) (λ k. most_compared (entries_for book id k) p.1) (types_of p.0.payloads) (λ k m. no_more k p.1) in
              let all : sum_by (most_compared_at book) (map (λ k. record { resource = id; kind = k; window = p.1 }) (types_of p.0.payloads)) ≡ sum_by (λ k. most_compared (entries_for book id k) p.1) (types_of p.0.payloads) =
              sum_map (most_compared_at book) (λ k. record { resource = id; kind = k; window = p.1 }) (types_of p.0.payloads) in
              omega (arith, less, all)
          by false e =
              let none = sum_nothing (λ k. spent k p.1) (types_of p.0.payloads) (λ k m. never_compares (written_in writes (under indexes k)) p.1 e) in
              omega (arith, none)

      pub event_cost : most_repaired groups writes indexes ≤ most_compared_in book (touches_of id w)
      unfolding most_compared_in
      event_cost =
          let types = repaired_by_type laid groups group_spent in
          let intervals = by_interval laid groups own in
          let each = sum_rises (λ p. sum_by (λ k. spent k p.1) (types_of p.0.payloads)) (λ p. sum_by (most_compared_at book) (touched p)) laid (λ p m. one_interval p) in
          let all : sum_by (most_compared_at book) (touches_of id w) ≡ sum_by (λ p. sum_by (most_compared_at book) (touched p)) laid = sum_flat (most_compared_at book) touched laid in
          omega (arith, types, intervals, each, all)
