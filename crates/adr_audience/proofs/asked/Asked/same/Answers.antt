use Rattle.std.proofs.Common.{◌≡◌, ap, sym, ◌∙◌}
use Rattle.std.proofs.lemmas.Slice.Eq.{slice_eq-Decides}
use Rattle.std.specs.Bool.{Decides}
use Rattle.adr_keys.specs.declared.key.Key.{Key}
use Rattle.adr_keys.specs.Key.{same_key, same_key_true, same_key_self}
use Rattle.adr_audience.proofs.asked.Asked.same.Goals as goal

key_decides : (a b : Key) → Decides (same_key a b) (a ≡ b)
key_decides a b = (same_key_true a b, λ e. ap (λ k. same_key k b) e ∙ same_key_self b)

pub returns : goal.returns
returns c =
    let d = slice_eq-Decides key_decides _ _ _ c.eq.ensures in
    let mine = c.as_slice.ensures.value ∙ c.self.view_is in
    let its = c.as_slice-2.ensures.value ∙ c.other.view_is in
    (λ h. sym mine ∙ d.0 h ∙ its, λ e. d.1 (mine ∙ e ∙ sym its))
