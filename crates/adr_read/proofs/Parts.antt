-- The parts of an object, from its members.
use Rattle.std.proofs.Common.{◌≡◌, ℕ, List, [], false, Option, Some, None, option_map, unwrap_or, refl, ap, ◌∙◌, arith, inr}
use Rattle.std.specs.Prelude.{pos, ◌⊎◌, Ok, Err, MatchOption, MatchResult, bytes_eq, is_some, if◌then◌else◌}
use Rattle.std.specs.Option.{ok_or}
use Rattle.serde_json.specs.Data.{Data, Members, object}
use Rattle.serde_json.specs.Find.{as_object}
use Rattle.adr_refusal.proofs.Judged.{number_of_le}
use Rattle.adr_refusal.specs.Faults.{least, none, IsRefusedFor}
use Rattle.adr_refusal.specs.declared.refusal.Refusal.{Refusal}
use Rattle.adr_refusal.specs.declared.refusal.Refusal.TheVariants.{NoMemory, NotObject}
use Rattle.adr_read.specs.declared.from_value.Context.{Context}
use Rattle.adr_read.specs.Body.{object_or}
use Rattle.adr_read.specs.Looking.{text_of}
use Rattle.adr_read.specs.Sets.{of_kind, optional, unless}
use Rattle.adr_read.specs.Values.{text_faults, text_in, equal_faults}

-- where a value stands that doesn't depend on it
abbrev pub anywhere : Context
anywhere = record { moment = pos 0; place = pos 0 }

-- ---- a text that has to be the wanted one

pub absent_equal : (wanted : List ℕ) (f : Refusal) (o : Option Data) → None ≡ option_map text_in o → least (optional (equal_faults wanted f) o) ≡ none
absent_equal wanted f None is = refl
absent_equal wanted f (Some d) is = absurd cc

equal_at : (wanted : List ℕ) (f : Refusal) (x : Option (List ℕ)) (t : List ℕ) → least (of_kind x (λ _. [])) ≡ none → t ≡ unwrap_or x [] → least (of_kind x (λ s. unless (bytes_eq s wanted) f)) ≡ least (unless (bytes_eq t wanted) f)
equal_at wanted f None t ok is = absurd (let never : ⊥ = omega (arith, ok) in never)
equal_at wanted f (Some s) t ok is = rw is refl

pub present_equal : (wanted : List ℕ) (f : Refusal) (o : Option Data) (t : List ℕ) → least (optional text_faults o) ≡ none → Some t ≡ option_map text_in o → least (optional (equal_faults wanted f) o) ≡ least (unless (bytes_eq t wanted) f)
present_equal wanted f None t ok is = absurd cc
present_equal wanted f (Some d) t ok is = equal_at wanted f (text_of d) t ok (let same : t ≡ text_in d = cc in same)

refused_at : (wanted : List ℕ) (f g : Refusal) (x : Option (List ℕ)) → IsRefusedFor g (least (of_kind x (λ _. []))) → IsRefusedFor g (least (of_kind x (λ s. unless (bytes_eq s wanted) f)))
refused_at wanted f g None refused other = refused other
refused_at wanted f g (Some s) refused other = let never : ⊥ = omega (arith, refused other, number_of_le g) in absurd never

pub refused_equal : (wanted : List ℕ) (f g : Refusal) (o : Option Data) → IsRefusedFor g (least (optional text_faults o)) → IsRefusedFor g (least (optional (equal_faults wanted f) o))
refused_equal wanted f g None refused = refused
refused_equal wanted f g (Some d) refused = refused_at wanted f g (text_of d) refused

-- ---- a whole body

pub nothing_left : {T A : Type 0} (B : T → Type 0) (r : Option T) → false ≡ is_some r → MatchOption r A B → A
nothing_left B None empty h = h
nothing_left B (Some x) empty h = absurd cc

-- what is an object has its members, and what is none is refused
pub object_told : {M : Type 0} (value : Option Data) (d : Data) (r : Option M) (A : M → Data → Type 0) → value ≡ Some d
    → MatchOption r (as_object d ≡ None) (λ m. (ms : Members) × (d ≡ object ms) × A m d)
    → MatchResult (ok_or r NotObject) (λ m. (x : Data) × (object_or value ≡ Ok x) × A m x) (λ f. (f ≡ NoMemory) ⊎ (object_or value ≡ Err f))
object_told value d None A is none = inr (ap object_or is ∙ ap (λ o. if is_some o then Ok d else Err NotObject) none)
object_told value d (Some m) A is found = (d, ap object_or is ∙ ap (λ x. if is_some (as_object x) then Ok d else Err NotObject) found.1, found.2)
