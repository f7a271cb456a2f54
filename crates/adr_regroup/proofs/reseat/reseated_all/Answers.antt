use Rattle.std.proofs.Common.{◌≡◌, ◌∷◌, ◌<◌, ℕ, List, true, length, sum_by, ap, ◌∙◌, arith, le_refl, subst}
use Rattle.std.proofs.lemmas.List.Sums.{sum_by-cons}
use Rattle.adr_schedule.specs.Moves.{is_among}
use Rattle.adr_regroup.specs.Compared.{most_reseated_at}
use Rattle.adr_regroup.proofs.Reseated.{first_among, later_among}
use Rattle.adr_regroup.proofs.reseat.reseated_all.Goals as goal

pub rest-init : goal.rest-init
rest-init g c = record {
  within = c.requires.places;
  seated = c.requires.seated;
  last = tt;
  fewer = λ p. le_refl _;
  least = le_refl _;
}

-- the next of the places has a resource
next_there : (rest : List ℕ) (place : ℕ) (others : List ℕ) (n : ℕ) → rest ≡ place ∷ others → ((p : ℕ) → is_among rest p ≡ true → p < n) → place < n
next_there rest place others n e within = first_among place others n (subst (λ (ps : List ℕ). (p : ℕ) → is_among ps p ≡ true → p < n) e within)

pub seen_at-requires-clause-place : goal.seen_at-requires-clause-place
seen_at-requires-clause-place g c = next_there _ _ _ _ c.in-Some.ensures.cases.0 c.rest.invariant.within

pub reseated-requires-clause-place : goal.reseated-requires-clause-place
reseated-requires-clause-place g c = next_there _ _ _ _ c.in-Some.ensures.cases.0 c.rest.invariant.within

pub rest-preserved : goal.rest-preserved
rest-preserved g c =
    let n = length c.args.basis.now.new.now.objects.resources in
    let asked : ℕ → ℕ = most_reseated_at c.args.basis.now.new.now.objects c.args.schedule in
    record {
      within = later_among c.in-Some.place.now c.in-Some.others.now n
          (subst (λ (ps : List ℕ). (p : ℕ) → is_among ps p ≡ true → p < n) c.in-Some.ensures.cases.0 c.rest.invariant.within);
      seated = c.in_ok-after.ensures.seated;
      last = c.in_ok-seen.ensures.seen;
      fewer = λ p. omega (arith, c.in_ok-after.ensures.fewer p, c.rest.invariant.fewer p);
      least = (let parts = ap (sum_by asked) c.in-Some.ensures.cases.0 ∙ sum_by-cons asked c.in-Some.place.now c.in-Some.others.now in
          let own = c.rest.invariant.fewer c.in-Some.place.now in
          omega (arith, parts, own, c.in_ok-after.ensures.least, c.rest.invariant.least));
    }
