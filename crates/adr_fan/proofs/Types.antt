-- Two payload types of one code and one name are one.
use Rattle.std.proofs.Common.{◌≡◌, ℕ, ◌<◌, ◌⊎◌, inl, inr, Some, refl, sym, ap, ◌∙◌, subst, arith}
use Rattle.adr_value.specs.declared.payload.PayloadType.{PayloadType}
use Rattle.adr_value.specs.declared.payload.PayloadType.TheVariants.{Private}
use Rattle.adr_value.specs.Payload.{code_of, name_of, of_code, CodesReturn}

of_table_or_private : (p : PayloadType) → (code_of p < 34) ⊎ (p ≡ Private (name_of p))
of_table_or_private (Private t) = inr refl
of_table_or_private _ = inl (omega arith)

pub same_types : (a b : PayloadType) → CodesReturn → code_of a ≡ code_of b → name_of a ≡ name_of b → a ≡ b
same_types a b return codes names =
    elim (of_table_or_private a) [
      | inl small ↦
          let also : code_of b < 34 = subst (λ (n : ℕ). n < 34) codes small in
          let both : Some a ≡ Some b = sym (return a small) ∙ ap of_code codes ∙ return b also in
          cc both
      | inr first ↦
          elim (of_table_or_private b) [
            | inl small ↦
                let code : code_of a ≡ 34 = ap code_of first in
                absurd (omega (arith, small, code, codes))
            | inr second ↦ first ∙ ap Private names ∙ sym second
          ]
    ]
