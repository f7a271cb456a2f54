-- The elements of a list, as they are gathered token by token.
use Rattle.std.specs.Prelude.{◌≡◌, ℕ, min, nat_le, List, length}
use Rattle.std.specs.List.{flat_map}
use Rattle.serde_json.specs.Data.{Data}
use Rattle.adr_refusal.specs.Faults.{least, none}
use Rattle.adr_refusal.specs.declared.refusal.Refusal.{Refusal}
use Rattle.adr_refusal.specs.declared.refusal.Refusal.TheVariants.{TooMany}
use Rattle.adr_read.specs.Sets.{unless, at_places}

-- of that list, the count, up to the limit, the least fault, and where there is none what its elements stand for
pub record AreOf {T : Type 0} (limit : ℕ) (faults_of : Data → List Refusal) (stands_for : ℕ → Data → T) (items : List T) (count : ℕ) (faults : ℕ) (ds : List Data) : Type 0 where
  pub counted : count ≡ min (length ds) limit
  pub least_fault : faults ≡ min (least (unless (nat_le (length ds) limit) TooMany)) (least (flat_map faults_of ds))
  pub values : faults ≡ none → items ≡ at_places stands_for 0 ds
