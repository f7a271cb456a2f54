-- Sets of faults, and answers, that are the same but for one refusal.
use Rattle.std.proofs.Common.{◌≡◌, ℕ, min, List, [], ◌∷◌, ◌++◌, sym, ap, ◌∙◌, arith, append-nil, append_assoc, refl, subst, inl, inr, ◌⊎◌}
use Rattle.std.specs.Prelude.{Option, Some, None, Result, Ok, Err}
use Rattle.adr_refusal.specs.Agreeing.{Agrees, IsNot}
use Rattle.adr_refusal.specs.Answer.{result_and_then, result_map}
use Rattle.adr_refusal.specs.Faults.{judged, least, least_fault, least_of, none, unless_refused}
use Rattle.adr_refusal.specs.Refusal.{number_of}
use Rattle.adr_refusal.specs.declared.refusal.Refusal.{Refusal}
use Rattle.adr_refusal.proofs.Judged.{judged-err, least-append, least_fault-number, least_le, number_of_le}
use Rattle.adr_refusal.proofs.Refusals.{number_of-injective}

pub agrees_map : {T U : Type 0} (g : Refusal) (f : T → U) (x y : Result T Refusal) → Agrees g x y → Agrees g (result_map f x) (result_map f y)
agrees_map g f (Ok v) y h n = ap (result_map f) (h tt)
agrees_map g f (Err e) y h n = ap (result_map f) (h n)

pub agrees_then : {T U : Type 0} (g : Refusal) (j k : T → Result U Refusal) (x : Result T Refusal) → ((v : T) → Agrees g (j v) (k v))
    → Agrees g (result_and_then j x) (result_and_then k x)
agrees_then g j k (Ok v) h n = h v n
agrees_then g j k (Err e) h n = refl

-- ---- a set without one of its faults

-- what is judged is judged the same without a fault that it is not refused for
pub judged_without : {T : Type 0} (g : Refusal) (fs gs : List Refusal) (v : T) → least fs ≡ min (least gs) (number_of g)
    → Agrees g (judged fs v) (judged gs v)
judged_without {T = T} g fs gs v e = by (least_fault fs) (least_fault-number fs)
  where
    by : (o : Option Refusal) → least_of o ≡ least fs → Agrees {T = T} g (unless_refused o v) (judged gs v)
    by None same n = let small = number_of_le g in absurd (omega (arith, same, e, small))
    by (Some f) same n =
        let apart : number_of f ≡ number_of g → ⊥ = λ h. n (number_of-injective f g h) in
        judged-err gs v f (other (number_of f) (number_of g) (least gs) (same ∙ e) apart)
      where
        other : (a b c : ℕ) → a ≡ min c b → (a ≡ b → ⊥) → a ≡ c
        other a b c h k = grind arith

-- a fault under a test that the larger limits pass wherever the lesser ones do
pub judged_if : {T : Type 0} (g : Refusal) (front rest : List Refusal) (v : T) (a b : List Refusal)
    → ((a ≡ b) ⊎ ((a ≡ g ∷ []) × (b ≡ []))) → Agrees g (judged (front ++ (a ++ rest)) v) (judged (front ++ (b ++ rest)) v)
judged_if {T = T} g front rest v a b (inl e) = λ n. ap (λ (l : List Refusal). judged {T = T} (front ++ (l ++ rest)) v) (sym e)
judged_if g front rest v a b (inr h) =
    judged_without g (front ++ (a ++ rest)) (front ++ (b ++ rest)) v (counted a b h.0 h.1)
  where
    counted : (a b : List Refusal) → a ≡ g ∷ [] → b ≡ [] → least (front ++ (a ++ rest)) ≡ min (least (front ++ (b ++ rest))) (number_of g)
    counted a b e f =
        let one = least-append front (a ++ rest) in
        let two = least-append a rest in
        let three = least-append front (b ++ rest) in
        let four = least-append b rest in
        let five : least a ≡ min (number_of g) none = ap least e in
        let six : least b ≡ none = ap least f in
        let seven = least_le rest in
        let eight = number_of_le g in
        omega (arith, one, two, three, four, five, six, seven, eight)

-- the same where nothing follows
pub judged_last : {T : Type 0} (g : Refusal) (front a b : List Refusal) (v : T) → ((a ≡ b) ⊎ ((a ≡ g ∷ []) × (b ≡ [])))
    → Agrees g (judged (front ++ a) v) (judged (front ++ b) v)
judged_last {T = T} g front a b v h n =
    ap (λ (l : List Refusal). judged {T = T} (front ++ l) v) (sym (append-nil b))
    ∙ judged_if g front [] v a b h (subst (λ (l : List Refusal). IsNot {T = T} g (judged (front ++ l) v)) (sym (append-nil a)) n)
    ∙ ap (λ (l : List Refusal). judged {T = T} (front ++ l) v) (append-nil a)

-- the same amid parts
pub judged_inside : {T : Type 0} (g : Refusal) (head mid rest a b : List Refusal) (v : T) → ((a ≡ b) ⊎ ((a ≡ g ∷ []) × (b ≡ [])))
    → Agrees g (judged (head ++ (mid ++ (a ++ rest))) v) (judged (head ++ (mid ++ (b ++ rest))) v)
judged_inside {T = T} g head mid rest a b v h n =
    ap (λ (l : List Refusal). judged {T = T} l v) (sym (append_assoc head mid (b ++ rest)))
    ∙ judged_if g (head ++ mid) rest v a b h (subst (λ (l : List Refusal). IsNot {T = T} g (judged l v)) (sym (append_assoc head mid (a ++ rest))) n)
    ∙ ap (λ (l : List Refusal). judged {T = T} l v) (append_assoc head mid (a ++ rest))
