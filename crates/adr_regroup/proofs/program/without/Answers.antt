use Rattle.std.proofs.Common.{◌≡◌, ℕ, ◌++◌, not, false, List, [], ◌∷◌, filter, append_assoc, sym, ◌∙◌}
use Rattle.adr_schedule.specs.Moves.{is_among}
use Rattle.adr_regroup.proofs.program.without.Goals as goal

-- one more that is not among the others
one_more : (others left more rest after all : List ℕ) (place : ℕ) → rest ≡ place ∷ after → is_among others place ≡ false → more ≡ left ++ place ∷ []
    → left ++ filter (λ p. not (is_among others p)) rest ≡ all → more ++ filter (λ p. not (is_among others p)) after ≡ all
one_more others left more rest after all place taken out pushed so_far = rw (pushed, append_assoc) (rw (taken, out) at so_far)

pub rest-preserved-in_ok-push : goal.rest-preserved-in_ok-push
rest-preserved-in_ok-push c =
    one_more c.args.others.now c.rest.left.items c.push.new.self.items c.rest.rest.now c.in-Some.more.now _ c.in-Some.place.now c.in-Some.ensures.cases.0 (sym c.has.ensures ∙ c.if-not-has.true)
    c.in_ok-push.ensures.items c.rest.invariant
