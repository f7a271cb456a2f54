-- What wins doesn't see the order of the entries, nor how often one stands, nor those that cover other instants.
use Rattle.std.proofs.Common.{◌≡◌, ℤ, Bool, true, List, [], Option, Some, None, map, filter, refl, ap, subst, ◌∙◌}
use Rattle.std.specs.Option.{option_map}
use Rattle.adr_time.specs.Spans.{covers}
use Rattle.adr_model.specs.declared.entry.Entry.{Entry}
use Rattle.adr_model.specs.declared.entry.Rank.{Rank}
use Rattle.adr_model.specs.declared.entry.Tie.{Tie}
use Rattle.adr_model.specs.Governor.{first_of, winner_at, winner_of}
use Rattle.adr_model.specs.Lists.{In}
use Rattle.adr_model.specs.Rank.{ranked}
use Rattle.adr_model.proofs.Lists.{In-filter, In-from_filter, In-from_map, In-map}
use Rattle.adr_model.proofs.Order.{one_of_two_goes_before}
use Rattle.adr_repair.proofs.Least.{first_is_least, IsFirst}
use Rattle.adr_lines.specs.Right.{winner_under}

-- ---- winners

-- a winner says of a rank its number and its place
same_winner : (a b : Entry) → a.rank ≡ b.rank → winner_of a ≡ winner_of b
same_winner a b e = ap (λ (r : Rank). winner_of (record a { rank = r })) e

winner_in_any_order : (xs ys : List Entry) → ((e : Entry) → In e xs → In e ys) → ((e : Entry) → In e ys → In e xs)
    → option_map winner_of (first_of xs) ≡ option_map winner_of (first_of ys)
winner_in_any_order xs ys there back = by (first_of xs) (first_of ys) (first_is_least xs) (first_is_least ys)
  where
    nobody : (zs : List Entry) (e : Entry) → zs ≡ [] → In e zs → ⊥
    nobody zs e n m = subst (λ (l : List Entry). In e l) n m

    by : (a b : Option Entry) → IsFirst xs a → IsFirst ys b → option_map winner_of a ≡ option_map winner_of b
    by None None p q = refl
    by None (Some f) p q = absurd (nobody xs f p (back f q.0))
    by (Some e) None p q = absurd (nobody ys e q (there e p.0))
    by (Some e) (Some f) p q = ap Some (same_winner e f (one_of_two_goes_before e.rank f.rank (q.1 e (there e p.0)) (p.1 f (back f q.0))))

-- what covers the instant is in the other list too
abbrev pub AreAt : ℤ → List Entry → List Entry → Type 0
AreAt t xs ys = (e : Entry) → In e xs → covers e.span t ≡ true → In e ys

pub winner_same : (xs ys : List Entry) (t : ℤ) → AreAt t xs ys → AreAt t ys xs → winner_at xs t ≡ winner_at ys t
winner_same xs ys t there back =
    let here : Entry → Bool = λ e. covers e.span t in
    winner_in_any_order (filter here xs) (filter here ys)
    (λ e m. let r = In-from_filter here xs e m in In-filter here ys e (there e r.0 r.1) r.1)
    (λ e m. let r = In-from_filter here ys e m in In-filter here xs e (back e r.0 r.1) r.1)

-- ---- under a rule for ties

module _ (tie : Tie) (t : ℤ) where
  ranked_at : (xs ys : List Entry) → AreAt t xs ys → AreAt t (map (ranked tie) xs) (map (ranked tie) ys)
  ranked_at xs ys there e m c =
      let (x, n, same) = In-from_map (ranked tie) xs e m in
      let here : covers x.span t ≡ true = ap (λ (y : Entry). covers y.span t) same ∙ c in
      subst (λ (z : Entry). In z (map (ranked tie) ys)) same (In-map (ranked tie) ys x (there x n here))

  pub same_under : (xs ys : List Entry) → AreAt t xs ys → AreAt t ys xs → winner_under tie xs t ≡ winner_under tie ys t
  same_under xs ys there back = winner_same (map (ranked tie) xs) (map (ranked tie) ys) t (ranked_at xs ys there) (ranked_at ys xs back)
