-- What a copy promises.
use Rattle.std.specs.Prelude.{◌≡◌, MatchResult, Result}
use Rattle.adr_refusal.specs.declared.refusal.Refusal.{Refusal}
use Rattle.adr_refusal.specs.declared.refusal.Refusal.TheVariants.{NoMemory}

-- the copy is equal to its source, and only want of memory refuses it
abbrev pub IsCopyOf : {T : Type 0} → Result T Refusal → T → Type 0
IsCopyOf r source = MatchResult r (λ copy. copy ≡ source) (λ refusal. refusal ≡ NoMemory)
