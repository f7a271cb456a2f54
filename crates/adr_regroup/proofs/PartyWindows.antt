-- The entries of events on which writes differ.
use Rattle.std.proofs.Common.{◌≡◌, ◌≤◌, ◌+◌, ◌==◌, ◌||◌, ◌⊎◌, inl, inr, ℕ, ℤ, Bool, true, false, if◌then◌else◌, List, [], ◌∷◌, ◌++◌, map, Option, Some, None, refl, ap, sym, subst, ◌∙◌, append_assoc, arith, eqb-true, eq-eqb}
use Rattle.std.proofs.lemmas.Bool.{both_ways}
use Rattle.std.proofs.lemmas.Grind.{flat_map-append}
use Rattle.std.proofs.lemmas.List.{map-append}
use Rattle.std.proofs.lemmas.List.Sums.{sum_by-cons}
use Rattle.std.specs.Option.{option_map, option_map_or}
use Rattle.adr_value.specs.declared.payload.PayloadType.{PayloadType}
use Rattle.adr_object.specs.declared.event.Event.{Event}
use Rattle.adr_store.specs.Numbers.{by_number}
use Rattle.adr_model.specs.declared.entry.Entry.{Entry}
use Rattle.adr_model.specs.declared.entry.Tie.{Tie}
use Rattle.adr_model.specs.declared.written.Written.{Written}
use Rattle.adr_model.specs.Governor.{entries_of}
use Rattle.adr_model.specs.Lists.{In}
use Rattle.adr_model.specs.Rank.{ranked}
use Rattle.adr_lines.specs.declared.grouped.TypeEntries.{TypeEntries}
use Rattle.adr_lines.specs.Grouped.{any_covers_at, entries_under, written_event, HaveOwnTypes}
use Rattle.adr_lines.specs.Right.{has_number}
use Rattle.adr_lines.proofs.Covered.{any_left, any_ranked, any_right}
use Rattle.adr_lines.specs.declared.indexes.Indexes.{Indexes}
use Rattle.adr_group.specs.Group.{AreWindowsOf}
use Rattle.adr_group.specs.Repair.{most_repaired}
use Rattle.adr_group.proofs.Turns.{most_both}
use Rattle.adr_regroup.specs.Compared.{cost_but, cost_unless, IsMostFor}
use Rattle.adr_regroup.specs.Party.{entries_but, entries_by, entries_unless}

-- ---- the event of a number

pub found_event : (o : Option Written) (e : Event) → Some e ≡ option_map (λ (w : Written). w.event) o → (w : Written) × (o ≡ Some w) × (w.event ≡ e)
found_event None e h = absurd (cc)
found_event (Some w) e h = let same : w.event ≡ e = cc in (w, refl, same)

pub found_number : (events : List Written) (n : ℕ) (w : Written) → by_number events n ≡ Some w → In w events × (w.written ≡ n)
found_number [] n w h = absurd (cc)
found_number (x ∷ xs) n w h = by (x.written == n) refl h (found_number xs n w)
  where
    by : (b : Bool) → (x.written == n) ≡ b → (if b then Some x else by_number xs n) ≡ Some w → (by_number xs n ≡ Some w → In w xs × (w.written ≡ n)) → In w (x ∷ xs) × (w.written ≡ n)
    by true e k later = let same : x ≡ w = cc in (inl same, ap (λ (y : Written). y.written) (sym same) ∙ eqb-true x.written n e)
    by false e k later = let r = later k in (inr r.0, r.1)

module _ (tie : Tie) (events : List Written) (n : ℕ) (e : Event) (start after groups : List TypeEntries)
    (found : Some e ≡ option_map (λ (w : Written). w.event) (by_number events n)) (made : after ≡ start ++ groups)
    (entries : (k : PayloadType) → entries_under groups k ≡ map (ranked tie) (entries_of k (written_event e n))) where
  the_event : (w : Written) × (by_number events n ≡ Some w) × (w.event ≡ e)
  the_event = found_event (by_number events n) e found

  is_it : written_event e n ≡ the_event.0
  is_it =
      let w = the_event.0 in
      ap (λ x. written_event x n) (sym the_event.2) ∙ ap (λ m. written_event w.event m) (sym (found_number events n w the_event.1).1)

  its_entries : (k : PayloadType) → entries_under groups k ≡ map (ranked tie) (entries_of k the_event.0)
  its_entries k = entries k ∙ ap (λ w. map (ranked tie) (entries_of k w)) is_it

  pub added_entries : (others : List ℕ) → has_number others n ≡ false → (k : PayloadType) → entries_under after k ≡ entries_under start k ++ map (ranked tie) (entries_unless events others n k)
  added_entries others apart k =
      ap (λ gs. entries_under gs k) made
      ∙ flat_map-append _ start groups
      ∙ ap (λ es. entries_under start k ++ es)
      (its_entries k
      ∙ ap (λ o. map (ranked tie) (option_map_or (entries_of k) o [])) (sym the_event.1)
      ∙ ap (λ (b : Bool). map (ranked tie) (if b then [] else entries_by events n k)) (sym apart))

  pub added_least : (others : List ℕ) → has_number others n ≡ false → HaveOwnTypes groups → (indexes : Indexes) (writes : List ℕ) (cost : Written → ℕ) → IsMostFor tie events indexes writes cost
      → most_repaired after writes indexes ≤ most_repaired start writes indexes + cost_unless cost events others n
  added_least others apart own indexes writes cost bound =
      let w = the_event.0 in
      let little : most_repaired groups writes indexes ≤ cost w = bound w groups (found_number events n w the_event.1).0 own its_entries in
      let both : most_repaired after writes indexes ≡ most_repaired start writes indexes + most_repaired groups writes indexes = ap (λ gs. most_repaired gs writes indexes) made ∙ most_both start groups writes indexes in
      let here : cost_unless cost events others n ≡ cost w = ap (λ (b : Bool). if b then 0 else option_map_or cost (by_number events n) 0) apart ∙ ap (λ (o : Option Written). option_map_or cost o 0) the_event.1 in
      omega (arith, little, both, here)

-- ---- one number after the other

module _ (tie : Tie) (events : List Written) (others : List ℕ) (now after : List TypeEntries) (n : ℕ) (rest more : List ℕ) (first : rest ≡ n ∷ more) where
  pub turn_entries : (k : PayloadType) (all : List Entry)
      → entries_under after k ≡ entries_under now k ++ map (ranked tie) (entries_unless events others n k)
      → entries_under now k ++ map (ranked tie) (entries_but events rest others k) ≡ all
      → entries_under after k ++ map (ranked tie) (entries_but events more others k) ≡ all
  turn_entries k all h before =
      ap (λ es. es ++ map (ranked tie) (entries_but events more others k)) h
      ∙ append_assoc (entries_under now k) (map (ranked tie) (entries_unless events others n k)) (map (ranked tie) (entries_but events more others k))
      ∙ ap (λ es. entries_under now k ++ es) (sym (map-append (ranked tie) (entries_unless events others n k) (entries_but events more others k)))
      ∙ ap (λ ns. entries_under now k ++ map (ranked tie) (entries_but events ns others k)) (sym first)
      ∙ before

  pub turn_least : (indexes : Indexes) (writes : List ℕ) (cost : Written → ℕ) (all : ℕ)
      → most_repaired after writes indexes ≤ most_repaired now writes indexes + cost_unless cost events others n
      → most_repaired now writes indexes + cost_but cost events rest others ≤ all → most_repaired after writes indexes + cost_but cost events more others ≤ all
  turn_least indexes writes cost all h before =
      let parts : cost_but cost events rest others ≡ cost_unless cost events others n + cost_but cost events more others =
      ap (λ ns. cost_but cost events ns others) first ∙ sum_by-cons (cost_unless cost events others) n more in
      omega (arith, parts, h, before)

-- ---- what the windows hold then

module _ (events : List Written) (one : (w v : Written) → In w events → In v events → w.written ≡ v.written → w ≡ v) where
  number_finds : (es : List Written) (n : ℕ) (w : Written) → In w es → w.written ≡ n → (v : Written) × (by_number es n ≡ Some v)
  number_finds [] n w m e = absurd m
  number_finds (x ∷ xs) n w m e = by (x.written == n) refl m (λ k. number_finds xs n w k e)
    where
      by : (b : Bool) → (x.written == n) ≡ b → ((x ≡ w) ⊎ In w xs) → (In w xs → (v : Written) × (by_number xs n ≡ Some v)) → (v : Written) × ((if b then Some x else by_number xs n) ≡ Some v)
      by true k m later = (x, refl)
      by false k (inl same) later = absurd (both_ways (x.written == n) k (eq-eqb x.written n (ap (λ (y : Written). y.written) same ∙ e)))
      by false k (inr m) later = later m

  own_number : (w : Written) → In w events → by_number events w.written ≡ Some w
  own_number w m =
      let r = number_finds events w.written w m refl in
      let f = found_number events w.written r.0 r.1 in
      r.1 ∙ ap (λ (x : Written). Some x) (one r.0 w f.0 m f.1)

  module _ (others : List ℕ) (k : PayloadType) (t : ℤ) where
    -- an event of the numbers, which is not among the others, has its entries there
    pub holds : (numbers : List ℕ) (w : Written) → In w events → has_number numbers w.written ≡ true → has_number others w.written ≡ false
        → any_covers_at (entries_of k w) t ≡ true → any_covers_at (entries_but events numbers others k) t ≡ true
    holds [] w m h a c = absurd (cc)
    holds (n ∷ ns) w m h a c = by (n == w.written) refl h (λ k. holds ns w m k a c)
      where
        here : n ≡ w.written → any_covers_at (entries_unless events others n k) t ≡ true
        here e =
            subst (λ x. any_covers_at (entries_unless events others x k) t ≡ true) (sym e)
            (ap (λ (b : Bool). any_covers_at (if b then [] else entries_by events w.written k) t) a
            ∙ ap (λ o. any_covers_at (option_map_or (entries_of k) o []) t) (own_number w m) ∙ c)

        by : (b : Bool) → (n == w.written) ≡ b → (b || has_number ns w.written) ≡ true
            → (has_number ns w.written ≡ true → any_covers_at (entries_but events ns others k) t ≡ true) → any_covers_at (entries_but events (n ∷ ns) others k) t ≡ true
        by true e h later = any_left (entries_unless events others n k) (entries_but events ns others k) t (here (eqb-true n w.written e))
        by false e h later = any_right (entries_unless events others n k) (entries_but events ns others k) t (later h)

  -- windows of both differences
  pub both_differences : (tie : Tie) (old new : List ℕ) (windows : List TypeEntries)
      → ((k : PayloadType) → entries_under windows k ≡ map (ranked tie) (entries_but events old new k) ++ map (ranked tie) (entries_but events new old k))
      → AreWindowsOf events old new (entries_under windows)
  both_differences tie old new windows are w m = by (has_number old w.written) refl (has_number new w.written) refl
    where
      by : (a : Bool) → has_number old w.written ≡ a → (b : Bool) → has_number new w.written ≡ b
          → (has_number old w.written ≡ has_number new w.written)
          ⊎ ((k : PayloadType) (t : ℤ) → any_covers_at (entries_of k w) t ≡ true → any_covers_at (entries_under windows k) t ≡ true)
      by true e true f = inl (e ∙ sym f)
      by false e false f = inl (e ∙ sym f)
      by true e false f = inr (λ k t c.
          ap (λ es. any_covers_at es t) (are k)
          ∙ any_left (map (ranked tie) (entries_but events old new k)) (map (ranked tie) (entries_but events new old k)) t
          (any_ranked tie (entries_but events old new k) t ∙ holds new k t old w m e f c))
      by false e true f = inr (λ k t c.
          ap (λ es. any_covers_at es t) (are k)
          ∙ any_right (map (ranked tie) (entries_but events old new k)) (map (ranked tie) (entries_but events new old k)) t
          (any_ranked tie (entries_but events new old k) t ∙ holds old k t new w m f e c))

  -- the one difference, and then the other
  pub differ : (tie : Tie) (old new olds news : List ℕ) (start mid windows : List TypeEntries) → start ≡ [] → olds ≡ old → news ≡ new
      → ((k : PayloadType) → entries_under mid k ≡ entries_under start k ++ map (ranked tie) (entries_but events olds new k))
      → ((k : PayloadType) → entries_under windows k ≡ entries_under mid k ++ map (ranked tie) (entries_but events news old k))
      → AreWindowsOf events old new (entries_under windows)
  differ tie old new olds news start mid windows none same same_new first second =
      both_differences tie old new windows (λ k.
      second k
      ∙ ap (λ es. es ++ map (ranked tie) (entries_but events news old k))
      (first k ∙ ap (λ gs. entries_under gs k ++ map (ranked tie) (entries_but events olds new k)) none ∙ ap (λ ns. map (ranked tie) (entries_but events ns new k)) same)
      ∙ ap (λ ns. map (ranked tie) (entries_but events old new k) ++ map (ranked tie) (entries_but events ns old k)) same_new)

pub differ_least : (events : List Written) (indexes : Indexes) (writes : List ℕ) (cost : Written → ℕ) (old new olds news : List ℕ) (start mid windows : List TypeEntries) → start ≡ [] → olds ≡ old → news ≡ new
    → most_repaired mid writes indexes ≤ most_repaired start writes indexes + cost_but cost events olds new
    → most_repaired windows writes indexes ≤ most_repaired mid writes indexes + cost_but cost events news old
    → most_repaired windows writes indexes ≤ cost_but cost events old new + cost_but cost events new old
differ_least events indexes writes cost old new olds news start mid windows none same same_new first second =
    let empty : most_repaired start writes indexes ≡ 0 = ap (λ gs. most_repaired gs writes indexes) none in
    let left : cost_but cost events olds new ≡ cost_but cost events old new = ap (λ ns. cost_but cost events ns new) same in
    let right : cost_but cost events news old ≡ cost_but cost events new old = ap (λ ns. cost_but cost events ns old) same_new in
    omega (arith, empty, left, right, first, second)
