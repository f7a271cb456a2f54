-- Each refusal has a number of its own.
use Rattle.std.proofs.Common.{◌≡◌, Some, refl, sym, ap, ◌∙◌}
use Rattle.adr_refusal.specs.Refusal.{number_of, of_number}
use Rattle.adr_refusal.specs.declared.refusal.Refusal.{Refusal}
use Rattle.adr_refusal.specs.declared.refusal.Refusal.TheVariants.{NoMemory}

pub of_number-number_of : (f : Refusal) → of_number (number_of f) ≡ Some f
of_number-number_of NoMemory = refl
of_number-number_of _ = refl

pub number_of-injective : (f g : Refusal) → number_of f ≡ number_of g → f ≡ g
number_of-injective f g e =
    let same : Some f ≡ Some g = sym (of_number-number_of f) ∙ ap of_number e ∙ of_number-number_of g in
    cc
