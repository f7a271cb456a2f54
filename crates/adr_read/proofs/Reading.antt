-- Values and payloads, from their parts.
use Rattle.std.proofs.Common.{◌≡◌, List, [], ◌∷◌, refl, ap, subst, inl, inr, Bool, true, false, arith}
use Rattle.std.specs.Prelude.{◌⊎◌, Option, Some, None, is_some, Result, Ok, Err, if◌then◌else◌}
use Rattle.serde_json.specs.Data.{Data, Members, object}
use Rattle.serde_json.specs.Find.{as_object}
use Rattle.adr_refusal.proofs.Judged.{least_none, answers, number_of_le}
use Rattle.adr_refusal.specs.Answer.{Answers, result_map, result_and_then}
use Rattle.adr_refusal.specs.Faults.{least, none, Gives, IsRefusedFor, judged}
use Rattle.adr_value.specs.Payload.{shape_of}
use Rattle.adr_value.specs.Shapes.{has_shape}
use Rattle.adr_refusal.specs.declared.refusal.Refusal.{Refusal}
use Rattle.adr_refusal.specs.declared.refusal.Refusal.TheVariants.{BadShape, NoMemory}
use Rattle.adr_object.specs.declared.event.Payload.{Payload}
use Rattle.adr_read.specs.Sets.{unless, of_object, if_none}
use Rattle.adr_read.specs.Values.{map_faults, shape_faults, payload_faults, payload_in}

object_there : (o : Option Members) (d : Data) (fs : List Refusal) → as_object d ≡ o → is_some o ≡ true → of_object d fs ≡ fs
object_there None d fs is e = absurd cc
object_there (Some ms) d fs is e = rw is refl

-- in an object everything is looked at
pub of_object_there : (d : Data) (fs : List Refusal) → is_some (as_object d) ≡ true → of_object d fs ≡ fs
of_object_there d fs e = object_there _ d fs refl e

-- what the members of an object give, the object gives
pub object_gives : {T : Type 0} (r : Result T Refusal) (d : Data) (ms : Members) (fs : List Refusal) (v : T) → d ≡ object ms → Gives r fs v → Gives r (of_object d fs) v
object_gives r d ms fs v is gives = rw (of_object_there d fs (ap (λ e. is_some (as_object e)) is)) gives

shape_gives : (b : Bool) (p : Payload) (r : Result (Unit {0}) Refusal) → r ≡ (if b then Ok tt else Err BadShape) → Gives (result_map (λ _. p) r) (unless b BadShape) p
shape_gives true p r e = rw e (refl, refl)
shape_gives false p r e = rw e (λ _. refl)

-- a payload with no fault in its type and values is judged by its shape alone
pub payload_gives : (d : Data) (p : Payload) (r : Result (Unit {0}) Refusal) → least (map_faults d) ≡ none → p ≡ payload_in d → r ≡ (if has_shape (shape_of p.kind) p.values then Ok tt else Err BadShape) → Gives (result_map (λ _. p) r) (payload_faults d) (payload_in d)
payload_gives d p r none_there is e =
    let alone : payload_faults d ≡ shape_faults (payload_in d) = ap (λ fs. if_none fs (shape_faults (payload_in d))) (least_none (map_faults d) none_there) in
    rw alone (subst (λ q. Gives (result_map (λ _. p) r) (shape_faults q) q) is (shape_gives _ p r e))

refused_before : (f : Refusal) (fs more : List Refusal) → IsRefusedFor f (least fs) → IsRefusedFor f (least (if_none fs more))
refused_before f [] more refused other = let never : ⊥ = omega (arith, refused other, number_of_le f) in absurd never
refused_before f (g ∷ fs) more refused other = refused other

-- and one with a fault there is refused for that
pub payload_refused : (d : Data) (f : Refusal) → IsRefusedFor f (least (map_faults d)) → IsRefusedFor f (least (payload_faults d))
payload_refused d f refused = refused_before f (map_faults d) (shape_faults (payload_in d)) refused

-- ---- bodies

-- what is refused before the object is looked at is refused
pub object_refused : {T : Type 0} (f : Refusal) (o : Result Data Refusal) (k : Data → Result T Refusal) → (f ≡ NoMemory) ⊎ (o ≡ Err f) → (f ≡ NoMemory) ⊎ (result_and_then k o ≡ Err f)
object_refused f o k (inl e) = inl e
object_refused f o k (inr e) = inr (rw e refl)

-- what the parts of an object give is the answer to its body
pub object_answers : {T : Type 0} (r : Result T Refusal) (o : Result Data Refusal) (d : Data) (faults : Data → List Refusal) (read_as : Data → T) → o ≡ Ok d → Gives r (faults d) (read_as d) → Answers r (result_and_then (λ d. judged (faults d) (read_as d)) o)
object_answers r o d faults read_as is h = rw is (answers r (faults d) (read_as d) h)
