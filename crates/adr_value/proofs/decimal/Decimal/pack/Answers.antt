use Rattle.std.proofs.Common.{◌≡◌, ◌∙◌, ◌<◌, ap, rules, subst, sym, arith}
use mir.Syntax.{w64, w128}
use mir.Val.{to_z, of_z}
use Rattle.adr_value.specs.Number.{Number}
use Rattle.adr_value.specs.Value.{IsCanonical}
use Rattle.adr_value.specs.Packed.{packed_number, packed_form, word_of, high_of, low_of}
use Rattle.adr_value.proofs.PackedLemmas.{number_again}
use Rattle.adr_value.proofs.decimal.Decimal.pack.Goals as goal

pub invariant_of-result : goal.invariant_of-result
invariant_of-result c =
    let n : Number = record { coefficient = c.args.coefficient; scale = c.args.scale } in
    let round : to_z w64 (of_z w64 c.upper_half.result) ≡ c.upper_half.result = search rules in
    let word : to_z w128 (of_z w128 c.packed-word.result) ≡ packed_form n = search rules in
    let small : n.scale < 64 = omega (arith, c.requires.places) in
    let number : packed_number (word_of (to_z w64 (of_z w64 c.upper_half.result)) c.lower_half.result) ≡ n =
    ap (λ h. packed_number (word_of h c.lower_half.result)) (round ∙ c.upper_half.ensures ∙ ap high_of word)
    ∙ ap (λ l. packed_number (word_of (high_of (packed_form n)) l)) (c.lower_half.ensures.value ∙ ap low_of word)
    ∙ number_again n small in
    (subst (λ m. IsCanonical m) (sym number) c.requires, c.lower_half.ensures.bound)
