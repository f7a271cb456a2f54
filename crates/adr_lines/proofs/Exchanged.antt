-- The entries of the new events, after some events went and others came.
use Rattle.std.proofs.Common.{◌≡◌, ◌==◌, ◌⊎◌, inl, inr, Bool, true, false, List, [], map, refl, ap, sym, subst, ◌∙◌, eqb-true, eq-eqb}
use Rattle.std.specs.List.{list_any}
use Rattle.std.proofs.lemmas.Bool.{both_ways}
use Rattle.adr_value.specs.declared.payload.PayloadType.{PayloadType}
use Rattle.adr_model.specs.declared.entry.Entry.{Entry}
use Rattle.adr_model.specs.declared.entry.Tie.{Tie}
use Rattle.adr_model.specs.declared.written.Written.{Written}
use Rattle.adr_model.specs.Governor.{entries_of}
use Rattle.adr_model.specs.Lists.{In}
use Rattle.adr_model.specs.Rank.{ranked}
use Rattle.adr_model.proofs.Events.{one_write}
use Rattle.adr_model.proofs.Lists.{In-flat_map, In-from_flat_map, In-from_map, In-map, none_passes, passing_in}
use Rattle.adr_repair.proofs.Inside.{number_of_entry}
use Rattle.adr_repair.proofs.Marks.{events_apart}
use Rattle.adr_index.specs.Index.{inserted_all, others_all, AreNew}
use Rattle.adr_lines.specs.Right.{all_of, HaveSame}
use Rattle.adr_lines.specs.Exchange.{AreApart, FillsTheIndex, FitsTheIndex, IsExchange, IsIndexOf, IsUndone, KeepsTheIndex, MakesTheIndex}
use Rattle.adr_lines.proofs.Held.{are_new, elsewhere, not_elsewhere, ranked_apart, In-inserted_all, In-from_inserted_all, In-others_all, In-from_others_all}

-- ---- ranked entries of events

abbrev all_ranked : Tie → List Written → PayloadType → List Entry
all_ranked tie events k = map (ranked tie) (all_of events k)

-- a ranked entry is of one of the events, and has its number
pub record IsOf (tie : Tie) (events : List Written) (k : PayloadType) (e : Entry) : Type 0 where
  pub event : Written
  pub there : In event events
  pub entry : Entry
  pub own : In entry (entries_of k event)
  pub is : ranked tie entry ≡ e
  pub number : e.rank.written ≡ event.written

of_events : (tie : Tie) (events : List Written) (k : PayloadType) (e : Entry) → In e (all_ranked tie events k) → IsOf tie events k e
of_events tie events k e m =
    let r = In-from_map (ranked tie) (all_of events k) e m in
    let f = In-from_flat_map (entries_of k) events r.0 r.1 in
    record {
      event = f.0;
      there = f.1;
      entry = r.0;
      own = f.2;
      is = r.2;
      number = ap (λ (x : Entry). x.rank.written) (sym r.2) ∙ number_of_entry k f.0 r.0 f.2;
    }

of_others : (tie : Tie) (events others : List Written) (k : PayloadType) (e : Entry) (o : IsOf tie events k e) → In o.event others → In e (all_ranked tie others k)
of_others tie events others k e o m =
    subst (λ (x : Entry). In x (all_ranked tie others k)) o.is
    (In-map (ranked tie) (all_of others k) o.entry (In-flat_map (entries_of k) others o.event o.entry m o.own))

-- ---- one type

module _ (tie : Tie) (old new gone come : List Written) (x : IsExchange old new gone come) (k : PayloadType)
    (es : List Entry) (held : HaveSame es (all_ranked tie old k)) where
  abbrev left : List Entry
  left = others_all (all_ranked tie gone k) es

  fits : AreNew (all_ranked tie come k) left
  fits =
      are_new (all_ranked tie come k) left
      (ranked_apart tie (all_of come k) (events_apart k come x.come_apart))
      (λ a b m n same.
      let c = of_events tie come k a m in
      let o = of_events tie old k b ((held b).0 (In-from_others_all (all_ranked tie gone k) es b n).0) in
      x.unlike c.event o.event c.there o.there (sym c.number ∙ same ∙ o.number))

  made : HaveSame (inserted_all (all_ranked tie come k) left) (all_ranked tie new k)
  made e = (λ m. there (In-from_inserted_all (all_ranked tie come k) left e m), λ m. back (of_events tie new k e m))
    where
      there : In e left ⊎ In e (all_ranked tie come k) → In e (all_ranked tie new k)
      there (inl m) =
          let f = In-from_others_all (all_ranked tie gone k) es e m in
          let o = of_events tie old k e ((held e).0 f.0) in
          of_others tie old new k e o
          ((x.made o.event).1 (inl (o.there, λ g. not_elsewhere e (f.1 e (of_others tie old gone k e o g)))))
      there (inr m) = let c = of_events tie come k e m in of_others tie come new k e c ((x.made c.event).1 (inr c.there))

      kept : (o : IsOf tie new k e) → In o.event old → (In o.event gone → ⊥) → In e left
      kept o m stays =
          In-others_all (all_ranked tie gone k) es e ((held e).1 (of_others tie new old k e o m))
          (λ y n.
          let g = of_events tie gone k y n in
          elsewhere y e
          (λ same.
          let one : g.event ≡ o.event = x.one g.event o.event (x.were g.event g.there) m (sym g.number ∙ same ∙ o.number) in
          stays (subst (λ (w : Written). In w gone) one g.there)))

      which : (o : IsOf tie new k e) → (In o.event old × (In o.event gone → ⊥)) ⊎ In o.event come → In e left ⊎ In e (all_ranked tie come k)
      which o (inl s) = inl (kept o s.0 s.1)
      which o (inr c) = inr (of_others tie new come k e o c)

      back : IsOf tie new k e → In e (inserted_all (all_ranked tie come k) left)
      back o = In-inserted_all (all_ranked tie come k) left e (which o ((x.made o.event).0 o.there))

-- ---- all types

pub fits_the_index : (tie : Tie) → FitsTheIndex tie
unfolding IsIndexOf
fits_the_index tie old new gone come indexes leaving entering x held out into k =
    rw (out k, into k) (fits tie old new gone come x k _ (held k))

pub makes_the_index : (tie : Tie) → MakesTheIndex tie
unfolding IsIndexOf
makes_the_index tie old new gone come before after leaving entering x held out into is k =
    rw (is k, out k, into k) (made tie old new gone come x k _ (held k))

pub keeps_the_index : (tie : Tie) → KeepsTheIndex tie
unfolding IsIndexOf
keeps_the_index tie events before after held same k = rw (same k) (held k)

-- ---- all at once

pub apart_entries : (tie : Tie) → AreApart tie
apart_entries tie events groups own given k =
    rw (given k) (are_new (all_ranked tie events k) [] (ranked_apart tie (all_of events k) (events_apart k events own)) (λ x y m n. absurd n))

pub fills_the_index : (tie : Tie) → FillsTheIndex tie
unfolding IsIndexOf
fills_the_index tie events given indexes groups same are filled k e = (
  λ m. moved given events (λ w. (same w).0) (subst (λ (es : List Entry). In e es) (are k) ((filled k e).0 m)),
  λ m. (filled k e).1 (subst (λ (es : List Entry). In e es) (sym (are k)) (moved events given (λ w. (same w).1) m)),
)
  where
    moved : (ws vs : List Written) → ((w : Written) → In w ws → In w vs) → In e (all_ranked tie ws k) → In e (all_ranked tie vs k)
    moved ws vs all m = let o = of_events tie ws k e m in of_others tie ws vs k e o (all o.event o.there)

-- ---- the other way round

module _ (old new gone come : List Written) (x : IsExchange old new gone come) where
  -- whether an old event goes is told by its number
  goes : (w : Written) → In w old → In w gone ⊎ (In w gone → ⊥)
  goes w m = by (list_any (λ v. v.written == w.written) gone) refl
    where
      by : (b : Bool) → list_any (λ v. v.written == w.written) gone ≡ b → In w gone ⊎ (In w gone → ⊥)
      by true t =
          let r = passing_in (λ (v : Written). v.written == w.written) gone t in
          let one : r.0 ≡ w = x.one r.0 w (x.were r.0 r.1) m (eqb-true r.0.written w.written r.2) in
          inl (subst (λ (v : Written). In v gone) one r.1)
      by false t =
          inr (λ n. both_ways (w.written == w.written) (none_passes (λ (v : Written). v.written == w.written) gone t w n) (eq-eqb w.written w.written refl))

  not_come : (w : Written) → In w old → In w come → ⊥
  not_come w m n = x.unlike w w n m refl

  comes : (w : Written) → In w come → In w new
  comes w m = (x.made w).1 (inr m)

  unmade : (w : Written) → In w old → (In w new × (In w come → ⊥)) ⊎ In w gone
  unmade w m = by (goes w m)
    where
      by : In w gone ⊎ (In w gone → ⊥) → (In w new × (In w come → ⊥)) ⊎ In w gone
      by (inl g) = inr g
      by (inr stays) = inl ((x.made w).1 (inl (m, stays)), not_come w m)

  was : (w : Written) → (In w new × (In w come → ⊥)) ⊎ In w gone → In w old
  was w (inl s) = by ((x.made w).0 s.0)
    where
      by : (In w old × (In w gone → ⊥)) ⊎ In w come → In w old
      by (inl o) = o.0
      by (inr c) = absurd (s.1 c)
  was w (inr g) = x.were w g

  unlike_new : (w v : Written) → In w gone → In v new → w.written ≡ v.written → ⊥
  unlike_new w v m n same = by ((x.made v).0 n)
    where
      by : (In v old × (In v gone → ⊥)) ⊎ In v come → ⊥
      by (inl o) = o.1 (subst (λ (u : Written). In u gone) (x.one w v (x.were w m) o.0 same) m)
      by (inr c) = x.unlike v w c (x.were w m) (sym same)

  one_new : (w v : Written) → In w new → In v new → w.written ≡ v.written → w ≡ v
  one_new w v m n same = by ((x.made w).0 m) ((x.made v).0 n)
    where
      by : (In w old × (In w gone → ⊥)) ⊎ In w come → (In v old × (In v gone → ⊥)) ⊎ In v come → w ≡ v
      by (inl a) (inl b) = x.one w v a.0 b.0 same
      by (inl a) (inr d) = absurd (x.unlike v w d a.0 (sym same))
      by (inr c) (inl b) = absurd (x.unlike w v c b.0 same)
      by (inr c) (inr d) = one_write come x.come_apart w v c d same

pub undone : IsUndone
undone old new gone come x = record {
  made = λ w. (unmade old new gone come x w, was old new gone come x w);
  were = comes old new gone come x;
  unlike = unlike_new old new gone come x;
  one = one_new old new gone come x;
  gone_apart = x.come_apart;
  come_apart = x.gone_apart;
}
