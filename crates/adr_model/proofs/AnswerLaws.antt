-- When what governs changes, and where segments begin.
use Rattle.std.proofs.Common.{◌≡◌, ◌⊎◌, inl, inr, ℤ, ◌≤ℤ◌, ◌<ℤ◌, Bool, true, false, not, ◌&&◌, cond, if◌then◌else◌, List, [], ◌∷◌, ◌++◌, Option, Some, None, refl, sym, ap, ap₂, subst, ◌∙◌, filter, arith, eqb-true, eq-eqb}
use Rattle.std.specs.Prelude.{int_le, int_lt, ◌==◌}
use Rattle.std.specs.List.{AllByRecursion}
use Rattle.std.proofs.lemmas.Int.{ints}
use Rattle.std.proofs.lemmas.Bool.{and_parts, both_ways, false≢true}
use Rattle.adr_time.specs.Spans.{covers, is_before}
use Rattle.adr_time.specs.declared.span.End.{End}
use Rattle.adr_time.specs.declared.span.End.TheVariants.{At, Endless}
use Rattle.adr_time.specs.declared.span.Span.{Span}
use Rattle.adr_model.specs.declared.entry.Entry.{Entry}
use Rattle.adr_model.specs.declared.timeline.Winner.{Winner}
use Rattle.adr_model.specs.Answer.{IsUntil, bounds, changes, earlier_of, earliest, end_instants, is_change, same_winner, until}
use Rattle.adr_model.specs.Governor.{first_of, ranked_entries, winner_at, winner_of}
use Rattle.adr_model.specs.Laws.{UntilIsTheNextChange}
use Rattle.std.specs.Option.{option_map}
use Rattle.adr_model.proofs.Ranked.{governs_winners}

-- ---- where nothing starts or ends, nothing changes

each_parts : {X : Type 0} (P : X → Type 0) (xs ys : List X) → AllByRecursion P (xs ++ ys) → AllByRecursion P xs × AllByRecursion P ys
each_parts P [] ys h = (tt, h)
each_parts P (x ∷ xs) ys h = let r = each_parts P xs ys h.1 in ((h.0, r.0), r.1)

module _ (m v : ℤ) (le : m ≤ℤ v) where
  -- the instant does not lie after m and up to v
  abbrev Outside : ℤ → Type 0
  Outside b = (b ≤ℤ m) ⊎ (v <ℤ b)

  starts_same : (s : ℤ) → Outside s → int_le s m ≡ int_le s v
  starts_same s (inl h) = grind (arith, ints)
  starts_same s (inr h) = grind (arith, ints)

  before_same : (t : ℤ) → Outside t → int_lt m t ≡ int_lt v t
  before_same t (inl h) = grind (arith, ints)
  before_same t (inr h) = grind (arith, ints)

  end_same : (e : End) → AllByRecursion Outside (end_instants e) → is_before m e ≡ is_before v e
  end_same (At t) h = before_same t h.0
  end_same Endless h = refl

  covers_same : (s : Span) → AllByRecursion Outside (s.start ∷ end_instants s.end) → covers s m ≡ covers s v
  covers_same s h = ap₂ (λ (a b : Bool). a && b) (starts_same s.start h.0) (end_same s.end h.1)

  covering_same : (es : List Entry) → AllByRecursion Outside (bounds es) → filter (λ e. covers e.span m) es ≡ filter (λ e. covers e.span v) es
  covering_same [] h = refl
  covering_same (e ∷ es) h =
      let parts = each_parts Outside (e.span.start ∷ end_instants e.span.end) (bounds es) h in
      rw (covers_same e.span parts.0) (ap (λ (l : List Entry). cond (covers e.span v) (e ∷ l) l) (covering_same es parts.1))

  pub winner_same : (es : List Entry) → AllByRecursion Outside (bounds es) → winner_at es m ≡ winner_at es v
  winner_same es h = ap (λ (l : List Entry). option_map winner_of (first_of l)) (covering_same es h)

-- ---- the latest of some instants after t and up to v, or t

latest : ℤ → ℤ → List ℤ → ℤ
latest t v [] = t
latest t v (b ∷ bs) = if int_lt (latest t v bs) b && int_le b v then b else latest t v bs

latest_step : (t v b m : ℤ) (c : Bool) → (int_lt m b && int_le b v) ≡ c → t ≤ℤ m → m ≤ℤ v
    → (t ≤ℤ (cond c b m)) × ((cond c b m) ≤ℤ v) × (m ≤ℤ (cond c b m)) × ((b ≤ℤ (cond c b m)) ⊎ (v <ℤ b))
latest_step t v b m true e low high =
    let p = and_parts (int_lt m b) (int_le b v) e in
    let after : int_lt m b ≡ true = p.0 in
    let within : int_le b v ≡ true = p.1 in
    (grind (arith, ints), grind (arith, ints), grind (arith, ints), inl (grind (arith, ints)))
latest_step t v b m false e low high = (low, high, grind (arith, ints), by (int_lt m b) refl e)
  where
    by : (c : Bool) → int_lt m b ≡ c → (c && int_le b v) ≡ false → (b ≤ℤ m) ⊎ (v <ℤ b)
    by true f g = inr (grind (arith, ints))
    by false f g = inl (grind (arith, ints))

outside_on : (m n v : ℤ) → m ≤ℤ n → (bs : List ℤ) → AllByRecursion (λ b. (b ≤ℤ m) ⊎ (v <ℤ b)) bs → AllByRecursion (λ b. (b ≤ℤ n) ⊎ (v <ℤ b)) bs
outside_on m n v le [] h = tt
outside_on m n v le (b ∷ bs) h = (by h.0, outside_on m n v le bs h.1)
  where
    by : (b ≤ℤ m) ⊎ (v <ℤ b) → (b ≤ℤ n) ⊎ (v <ℤ b)
    by (inl a) = inl (grind (arith, ints))
    by (inr a) = inr a

record IsLatest (t v m : ℤ) (bs : List ℤ) : Type 0 where
  low : t ≤ℤ m
  high : m ≤ℤ v
  outside : AllByRecursion (λ b. (b ≤ℤ m) ⊎ (v <ℤ b)) bs

latest_is : (t v : ℤ) → t ≤ℤ v → (bs : List ℤ) → IsLatest t v (latest t v bs) bs
unfolding latest
latest_is t v le [] = record { low = grind (arith, ints); high = le; outside = tt }
latest_is t v le (b ∷ bs) =
    let r = latest_is t v le bs in
    let s = latest_step t v b (latest t v bs) (int_lt (latest t v bs) b && int_le b v) refl r.low r.high in
    record { low = s.0; high = s.1; outside = (s.3, outside_on (latest t v bs) _ v s.2 bs r.outside) }

-- what holds at t and at each of the instants after t and up to v holds at the latest
latest_has : (P : ℤ → Type 0) (t v : ℤ) → t ≤ℤ v → P t → (bs : List ℤ) → AllByRecursion (λ b. t <ℤ b → b ≤ℤ v → P b) bs → P (latest t v bs)
unfolding latest
latest_has P t v le p [] h = p
latest_has P t v le p (b ∷ bs) h = by (int_lt (latest t v bs) b && int_le b v) refl (latest_has P t v le p bs h.1) (latest_is t v le bs).low
  where
    by : (c : Bool) → (int_lt (latest t v bs) b && int_le b v) ≡ c → P (latest t v bs) → t ≤ℤ latest t v bs → P (cond c b (latest t v bs))
    by true e q low =
        let r = and_parts (int_lt (latest t v bs) b) (int_le b v) e in
        let after : int_lt (latest t v bs) b ≡ true = r.0 in
        let within : int_le b v ≡ true = r.1 in
        h.0 (grind (arith, ints)) (grind (arith, ints))
    by false e q low = q

-- ---- the earliest change

pub winner_from_same : (a b : Option Winner) → same_winner a b ≡ true → a ≡ b
winner_from_same None None h = refl
winner_from_same None (Some b) h = absurd (false≢true h)
winner_from_same (Some a) None h = absurd (false≢true h)
winner_from_same (Some a) (Some b) h =
    let p = and_parts (a.written == b.written) (a.place == b.place) h in
    let w = eqb-true a.written b.written p.0 in
    let k = eqb-true a.place b.place p.1 in
    λ i. Some (record { written = w i; place = k i })

pub same_from_winner : (a b : Option Winner) → a ≡ b → same_winner a b ≡ true
same_from_winner a b h = subst (λ c. same_winner a c ≡ true) h (self a)
  where
    self : (c : Option Winner) → same_winner c c ≡ true
    self None = refl
    self (Some c) = rw (eq-eqb c.written c.written refl, eq-eqb c.place c.place refl) refl

module _ (p : ℤ → Bool) where
  earlier_step : (b : ℤ) (e : End) (x : ℤ) → is_before x (earlier_of b e) ≡ true → is_before x e ≡ true
  earlier_step b (At u) x h = by (int_lt u b) refl h
    where
      by : (c : Bool) → int_lt u b ≡ c → is_before x (cond c (At u) (At b)) ≡ true → int_lt x u ≡ true
      by true f g = g
      by false f g = let later : int_lt x b ≡ true = g in grind (arith, ints)
  earlier_step b Endless x h = refl

  not_before_own : (b : ℤ) (e : End) → is_before b (earlier_of b e) ≡ true → ⊥
  not_before_own b (At u) h = by (int_lt u b) refl h
    where
      by : (c : Bool) → int_lt u b ≡ c → is_before b (cond c (At u) (At b)) ≡ true → ⊥
      by true f g = let less : int_lt b u ≡ true = g in grind (arith, ints)
      by false f g = let less : int_lt b b ≡ true = g in grind (arith, ints)
  not_before_own b Endless h = let less : int_lt b b ≡ true = h in grind (arith, ints)

  weaker : (e f : End) (bs : List ℤ) → ((x : ℤ) → is_before x f ≡ true → is_before x e ≡ true)
      → AllByRecursion (λ b. is_before b e ≡ true → p b ≡ false) bs → AllByRecursion (λ b. is_before b f ≡ true → p b ≡ false) bs
  weaker e f [] h a = tt
  weaker e f (b ∷ bs) h a = (λ k. a.0 (h b k), weaker e f bs h a.1)

  none_earlier : (bs : List ℤ) → AllByRecursion (λ b. is_before b (earliest (filter p bs)) ≡ true → p b ≡ false) bs
  none_earlier [] = tt
  none_earlier (b ∷ bs) = by (p b) refl (none_earlier bs)
    where
      by : (c : Bool) → p b ≡ c → AllByRecursion (λ x. is_before x (earliest (filter p bs)) ≡ true → p x ≡ false) bs
          → AllByRecursion (λ x. is_before x (earliest (cond c (b ∷ filter p bs) (filter p bs))) ≡ true → p x ≡ false) (b ∷ bs)
      by true e rest = (
        λ k. absurd (not_before_own b (earliest (filter p bs)) k),
        weaker (earliest (filter p bs)) (earlier_of b (earliest (filter p bs))) bs (earlier_step b (earliest (filter p bs))) rest,
      )
      by false e rest = (λ k. e, rest)

  earliest_passes : (bs : List ℤ) (u : ℤ) → earliest (filter p bs) ≡ At u → p u ≡ true
  earliest_passes [] u h = absurd (cc)
  earliest_passes (b ∷ bs) u h = by (p b) refl (earliest_passes bs u) h
    where
      pick : (e : End) → (e ≡ At u → p u ≡ true) → p b ≡ true → earlier_of b e ≡ At u → p u ≡ true
      pick (At w) rest own h = choose (int_lt w b) h
        where
          choose : (c : Bool) → cond c (At w) (At b) ≡ At u → p u ≡ true
          choose true k = rest k
          choose false k = let same : b ≡ u = cc in subst (λ z. p z ≡ true) same own
      pick Endless rest own h = let same : b ≡ u = cc in subst (λ z. p z ≡ true) same own

      by : (c : Bool) → p b ≡ c → (earliest (filter p bs) ≡ At u → p u ≡ true) → earliest (cond c (b ∷ filter p bs) (filter p bs)) ≡ At u → p u ≡ true
      by true own rest k = pick (earliest (filter p bs)) rest own k
      by false own rest k = rest k

-- ---- until

module _ (es : List Entry) (t : ℤ) where
  abbrev pub next : End
  next = earliest (changes es t)

  -- where a bound is not a change, the same one wins there
  same_at_bounds : (v : ℤ) → is_before v next ≡ true → (bs : List ℤ) → AllByRecursion (λ b. is_before b next ≡ true → is_change es t b ≡ false) bs
      → AllByRecursion (λ b. t <ℤ b → b ≤ℤ v → winner_at es b ≡ winner_at es t) bs
  same_at_bounds v h [] a = tt
  same_at_bounds v h (b ∷ bs) a = (λ later within. by (int_lt t b) refl later (a.0 (sooner next within h)), same_at_bounds v h bs a.1)
    where
      sooner : (e : End) → b ≤ℤ v → is_before v e ≡ true → is_before b e ≡ true
      sooner (At u) le k = let less : int_lt v u ≡ true = k in grind (arith, ints)
      sooner Endless le k = refl

      by : (c : Bool) → int_lt t b ≡ c → t <ℤ b → (c && not (same_winner (winner_at es b) (winner_at es t))) ≡ false → winner_at es b ≡ winner_at es t
      by true e later n = winner_from_same (winner_at es b) (winner_at es t) (not_false (same_winner (winner_at es b) (winner_at es t)) n)
        where
          not_false : (x : Bool) → not x ≡ false → x ≡ true
          not_false true k = refl
          not_false false k = absurd (false≢true (sym k))
      by false e later n = absurd (grind (arith, ints))

  pub same_before_next : (v : ℤ) → t ≤ℤ v → is_before v next ≡ true → winner_at es v ≡ winner_at es t
  same_before_next v le h =
      let m = latest_is t v le (bounds es) in
      sym (winner_same (latest t v (bounds es)) v m.high es m.outside)
      ∙ latest_has (λ b. winner_at es b ≡ winner_at es t) t v le refl (bounds es) (same_at_bounds v h (bounds es) (none_earlier (is_change es t) (bounds es)))

  pub next_is_until : IsUntil (winner_at es) t next
  next_is_until = by (earliest (changes es t)) refl
    where
      by : (e : End) → earliest (changes es t) ≡ e → IsUntil (winner_at es) t e
      by (At u) h =
          let p = and_parts (int_lt t u) (not (same_winner (winner_at es u) (winner_at es t))) (earliest_passes (is_change es t) (bounds es) u h) in
          let later : int_lt t u ≡ true = p.0 in (
            grind (arith, ints),
            λ same. both_ways (not (same_winner (winner_at es u) (winner_at es t)))
                (ap not (same_from_winner (winner_at es u) (winner_at es t) same)) p.1,
            λ v le less. same_before_next v le (rw h (grind (arith, ints))),
          )
      by Endless h = λ v le. same_before_next v le (rw h refl)

pub until_is_the_next_change : UntilIsTheNextChange
unfolding until
until_is_the_next_change tie book id kind t =
    subst (λ (g : ℤ → Option Winner). IsUntil g t (until tie book id kind t)) (sym (governs_winners tie book id kind))
    (next_is_until (ranked_entries tie book id kind) t)
