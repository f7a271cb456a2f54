-- How an answer follows from another, and how a call's answer meets its definition.
use Rattle.std.specs.Prelude.{◌≡◌, ◌⊎◌, Result, Ok, Err, IfErr, MatchResult}
use Rattle.adr_refusal.specs.declared.refusal.Refusal.{Refusal}
use Rattle.adr_refusal.specs.declared.refusal.Refusal.TheVariants.{NoMemory}

-- the value is mapped, and a refusal kept
abbrev pub result_map : {T U E : Type 0} → (T → U) → Result T E → Result U E
result_map f (Ok x) = Ok (f x)
result_map f (Err e) = Err e

-- the next call is made on the value, and a refusal kept
abbrev pub result_and_then : {T U E : Type 0} → (T → Result U E) → Result T E → Result U E
result_and_then f (Ok x) = f x
result_and_then f (Err e) = Err e

-- a call answers what the definition says, or that there is no memory
abbrev pub Answers : {T : Type 0} → Result T Refusal → Result T Refusal → Type 0
Answers r definition = MatchResult r (λ x. definition ≡ Ok x) (λ refusal. (refusal ≡ NoMemory) ⊎ (definition ≡ Err refusal))

-- nothing but want of memory refuses a call
abbrev pub OnlyNoMemory : {T : Type 0} → Result T Refusal → Type 0
OnlyNoMemory r = IfErr r (λ refusal. refusal ≡ NoMemory)
