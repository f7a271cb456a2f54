use Rattle.std.proofs.Common.{◌≡◌, ◌+◌, ◌++◌, [], map, refl, ap, sym, ◌∙◌, arith}
use Rattle.std.proofs.lemmas.List.{append-nil}
use Rattle.std.proofs.lemmas.Result.{on_ok_weaker}
use Rattle.adr_keys.specs.Places.{bits_of}
use Rattle.adr_keys.proofs.Listing.{bits-zero, bits-few, bits-whole}
use Rattle.adr_keys.proofs.places.push_places.Goals as goal

pub loop-step-init : goal.loop-step-init
loop-step-init c = record { items = refl; few = omega (arith, bits-few c.args.word) }

pub loop-step-preserved : goal.loop-step-preserved
loop-step-preserved c = record {
  items = c.in_ok-rest.ensures.ok ∙ c.loop-step.invariant.items;
  few = omega (arith, c.in_ok-rest.ensures.fewer, c.loop-step.invariant.few);
}

pub returns-then-word-eq18446744073709551615-clause-ok : goal.returns-then-word-eq18446744073709551615-clause-ok
returns-then-word-eq18446744073709551615-clause-ok c =
    on_ok_weaker c.push_whole.result (λ e. e ∙ ap (λ xs. c.args.list.now.items ++ map (λ i. c.args.base + i) xs) (sym (ap bits_of c.if-word-eq18446744073709551615.true ∙ bits-whole))) c.push_whole.ensures.ok

pub returns-then-rest-eq0-clause-ok : goal.returns-then-rest-eq0-clause-ok
returns-then-rest-eq0-clause-ok c =
    let left : bits_of c.loop-step.rest ≡ [] = ap bits_of c.if-rest-eq0.true ∙ bits-zero in
    sym (append-nil c.loop-step.list.items) ∙ ap (λ xs. c.loop-step.list.items ++ map (λ i. c.args.base + i) xs) (sym left) ∙ c.loop-step.invariant.items
