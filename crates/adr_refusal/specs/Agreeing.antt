-- Answers that are the same but for one refusal.
use Rattle.std.specs.Prelude.{◌≡◌, ◌≢◌, ⊤, Result, Ok, Err}
use Rattle.adr_refusal.specs.declared.refusal.Refusal.{Refusal}

-- the answer is not that refusal
abbrev pub IsNot : {T : Type 0} → Refusal → Result T Refusal → Type 0
IsNot g (Ok x) = ⊤
IsNot g (Err f) = f ≢ g

-- where the first answer is not that refusal, the second is the same
abbrev pub Agrees : {T : Type 0} → Refusal → Result T Refusal → Result T Refusal → Type 0
Agrees g x y = IsNot g x → y ≡ x
