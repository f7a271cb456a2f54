-- The machine values of a struct that is a pointer, and what it owns beside it. Assumes `Logic`.
use Rattle.std.proofs.Common.{◌≡◌, List, [], ◌∷◌, ◌++◌, refl, subst}
use Rattle.std.specs.Prelude.{Option, None, Some, Bool, true, false, is_some}
use seplogic.Ra.Ura.{Ura}
use lib.Dec.{T}
use mir.Syntax.{Sym}
use mir.Val.{Val, vstruct, vcons, vnil, of_list}
use base.Fml.{Fml, fsep}
use types.Logic.{Logic}
use types.Kit.{Item, Goal, Seq, Step, step, ‵, ◌$◌, drop, fsplit, fjoin, fpick, fpack, feq_i, feq_l}
use denote.RattleType.{RattleType, Valss}
use denote.Builtin.{RawPtr}
use denote.RawPtr.{Ptr, ptr_val}
use denote.Steps.{nothing}
use denote.Struct.Struct.{Shape, Struct, within}
use Rattle.std.specs.Box.Ownership.{box_owns}
use Rattle.adr_c.specs.Owned.{heap, owned}
use Rattle.std.specs.contracts.impls.GlobalAllocator.TheImpl.{ghosts}

abbrev pub word : Ptr → Val
word p = vstruct (vcons (ptr_val p) vnil)

-- a struct of that name, whose one field is a pointer
abbrev pub boxed : Sym → Shape
boxed ν = record { name = ν; args = []; types = []; fields = RawPtr ∷ [] }

no : false ≡ true → ⊥
no e = subst (λ (b : Bool). T (mathlib.Core.Bool.not b)) e tt

module _ {M : Type 1} {𝓤 : Ura M} {𝓛 : Logic 𝓤} {K : Type 0} {Γ : List (Item 𝓤)} {G : Goal 𝓤 𝓛.H} where
  pub boxed_out : K → (ν : Sym) (p : Ptr) (F : Fml) (vs : List Val) → (vs ≡ word p ∷ [] → Seq K 𝓛 (‵ F ∷ Γ) G) → Seq K 𝓛 (‵ (fsep ((Struct (boxed ν)).own_val (p, tt) vs) F) ∷ Γ) G
  boxed_out t ν p F vs k = fsplit t $ fpick t (λ vss. fsplit t $ feq_l t (λ ev. fsplit t $ feq_l t (λ ep. drop t $
      k (subst (λ (ps : List Val). vs ≡ vstruct (of_list (ps ++ [])) ∷ []) ep ev))))

  pub boxed_in : K → (ν : Sym) (p : Ptr) (F : Fml) → Step K 𝓛 (‵ (fsep ((Struct (boxed ν)).own_val (p, tt) (word p ∷ [])) F) ∷ Γ) G (‵ F ∷ Γ) G
  boxed_in t ν p F = step (λ s. nothing t $ feq_i t (List Val) (ptr_val p ∷ []) (ptr_val p ∷ []) refl $ fjoin t $ feq_i t (List Val) (word p ∷ []) (word p ∷ []) refl $ fjoin t $
      fpack t (Valss (RawPtr ∷ [])) (within (boxed ν) (p, tt) (word p ∷ [])) (ptr_val p ∷ [], tt) $ fjoin t $ s)

  -- where a handle is open, it owns a box
  pub held_out : K → (R : RattleType) (p : Ptr) (held : Option R.Denot) → is_some held ≡ true → ((x : R.Denot) → held ≡ Some x → Seq K 𝓛 (‵ (box_owns (ghosts.dealloc_token heap) R p x) ∷ Γ) G) → Seq K 𝓛 (‵ (owned R p held) ∷ Γ) G
  held_out t R p None e k = absurd (no e)
  held_out t R p (Some x) e k = k x refl
