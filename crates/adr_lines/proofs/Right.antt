-- The same wins where the same compete, in whatever order and however often the entries are held.
use Rattle.std.proofs.Common.{◌≡◌, ℕ, ℤ, inl, inr, Bool, true, false, List, [], ◌∷◌, ◌||◌, map, refl, ap, sym, subst, ◌∙◌, filter}
use Rattle.adr_value.specs.declared.payload.PayloadType.{PayloadType}
use Rattle.adr_time.specs.Spans.{covers}
use Rattle.adr_model.specs.declared.entry.Entry.{Entry}
use Rattle.adr_model.specs.declared.entry.Tie.{Tie}
use Rattle.adr_model.specs.declared.written.Written.{Written}
use Rattle.adr_model.specs.Governor.{entries_of, winner_at}
use Rattle.adr_model.specs.Lists.{In}
use Rattle.adr_model.specs.Rank.{ranked}
use Rattle.adr_model.proofs.Lists.{In-filter, In-from_filter, In-flat_map, In-from_flat_map, In-from_map, In-map}
use Rattle.adr_repair.proofs.Inside.{number_of_entry}
use Rattle.adr_lines.specs.Grouped.{any_covers_at}
use Rattle.adr_lines.specs.Laws.{AgreeAt, HeldWins, SameWins}
use Rattle.adr_lines.specs.Right.{all_of, among, has_number, winner_under, written_in, HaveSame}
use Rattle.adr_lines.proofs.Winners.{AreAt, same_under, winner_same}

-- ---- the entries of some writes

abbrev of_writes : List ℕ → Written → Bool
of_writes ws w = has_number ws w.written

abbrev of_numbers : List ℕ → Entry → Bool
of_numbers ws e = has_number ws e.rank.written

among_in : (events : List Written) (ws : List ℕ) (kind : PayloadType) (e : Entry) → In e (among events ws kind)
    → (w : Written) × In w events × (has_number ws w.written ≡ true) × In e (entries_of kind w)
among_in events ws kind e m =
    let r = In-from_flat_map (entries_of kind) (filter (of_writes ws) events) e m in
    let f = In-from_filter (of_writes ws) events r.0 r.1 in
    (r.0, f.0, f.1, r.2)

in_among : (events : List Written) (ws : List ℕ) (kind : PayloadType) (e : Entry) (w : Written)
    → In w events → has_number ws w.written ≡ true → In e (entries_of kind w) → In e (among events ws kind)
in_among events ws kind e w m h n = In-flat_map (entries_of kind) (filter (of_writes ws) events) w e (In-filter (of_writes ws) events w m h) n

-- ---- where the writes agree

some_covers : (es : List Entry) (t : ℤ) (e : Entry) → In e es → covers e.span t ≡ true → any_covers_at es t ≡ true
some_covers [] t e m c = absurd m
some_covers (x ∷ xs) t e (inl same) c = let h : covers x.span t ≡ true = ap (λ (y : Entry). covers y.span t) same ∙ c in rw h refl
some_covers (x ∷ xs) t e (inr n) c = either (any_covers_at xs t) (some_covers xs t e n c) (covers x.span t)
  where
    either : (b : Bool) → b ≡ true → (a : Bool) → (a || b) ≡ true
    either b h true = refl
    either b h false = h

module _ (old new : List Written) (ws others : List ℕ) (kind : PayloadType) (t : ℤ) (agree : AgreeAt old new ws others kind t) where
  there : AreAt t (among old ws kind) (among new others kind)
  there e m c =
      let r = among_in old ws kind e m in
      let f = (agree r.0 (some_covers (entries_of kind r.0) t e r.3 c)).0 (r.1, r.2) in
      in_among new others kind e r.0 f.0 f.1 r.3

  back : AreAt t (among new others kind) (among old ws kind)
  back e m c =
      let r = among_in new others kind e m in
      let f = (agree r.0 (some_covers (entries_of kind r.0) t e r.3 c)).1 (r.1, r.2) in
      in_among old ws kind e r.0 f.0 f.1 r.3

pub same_wins : (tie : Tie) → SameWins tie
same_wins tie old new ws others kind t agree =
    same_under tie t (among old ws kind) (among new others kind) (there old new ws others kind t agree) (back old new ws others kind t agree)

-- ---- entries that are held as they are ranked

module _ (tie : Tie) (ws : List ℕ) (es all : List Entry) (indexed : HaveSame es (map (ranked tie) all)) (t : ℤ) where
  plain : AreAt t (written_in ws es) (map (ranked tie) (written_in ws all))
  plain e m c =
      let f = In-from_filter (of_numbers ws) es e m in
      let (x, n, same) = In-from_map (ranked tie) all e ((indexed e).0 f.0) in
      let h : has_number ws x.rank.written ≡ true = ap (λ (y : Entry). has_number ws y.rank.written) same ∙ f.1 in
      subst (λ (z : Entry). In z (map (ranked tie) (written_in ws all))) same (In-map (ranked tie) (written_in ws all) x (In-filter (of_numbers ws) all x n h))

  in_ranked : AreAt t (map (ranked tie) (written_in ws all)) (written_in ws es)
  in_ranked e m c =
      let (x, n, same) = In-from_map (ranked tie) (written_in ws all) e m in
      let f = In-from_filter (of_numbers ws) all x n in
      let held : In (ranked tie x) es = (indexed (ranked tie x)).1 (In-map (ranked tie) all x f.0) in
      subst (λ (z : Entry). In z (written_in ws es)) same (In-filter (of_numbers ws) es (ranked tie x) held f.1)

  wins_plain : winner_at (written_in ws es) t ≡ winner_under tie (written_in ws all) t
  wins_plain = winner_same (written_in ws es) (map (ranked tie) (written_in ws all)) t plain in_ranked

-- the entries of the writes are those of the events of the writes
module _ (events : List Written) (ws : List ℕ) (kind : PayloadType) (t : ℤ) where
  from_events : AreAt t (written_in ws (all_of events kind)) (among events ws kind)
  from_events e m c =
      let f = In-from_filter (of_numbers ws) (all_of events kind) e m in
      let r = In-from_flat_map (entries_of kind) events e f.0 in
      in_among events ws kind e r.0 r.1 (subst (λ n. has_number ws n ≡ true) (number_of_entry kind r.0 e r.2) f.1) r.2

  of_events : AreAt t (among events ws kind) (written_in ws (all_of events kind))
  of_events e m c =
      let r = among_in events ws kind e m in
      In-filter (of_numbers ws) (all_of events kind) e (In-flat_map (entries_of kind) events r.0 e r.1 r.3)
      (subst (λ n. has_number ws n ≡ true) (sym (number_of_entry kind r.0 e r.3)) r.2)

pub held_wins : (tie : Tie) → HeldWins tie
held_wins tie events kind es ws t indexed =
    wins_plain tie ws es (all_of events kind) indexed t
    ∙ same_under tie t (written_in ws (all_of events kind)) (among events ws kind) (from_events events ws kind t) (of_events events ws kind t)
