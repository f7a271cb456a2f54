-- The least of a set of faults, by numbers and as a member.
use Rattle.std.proofs.Common.{◌≡◌, ℕ, zero, suc, ◌<◌, ◌≤◌, min, List, [], ◌∷◌, ◌++◌, length, get_or, refl, sym, ap, ◌∙◌, arith, lit≤, ltb, true, false, Bool, cond}
use Rattle.std.proofs.Common.{inl, inr, subst}
use Rattle.adr_refusal.proofs.Refusals.{number_of-injective}
use Rattle.std.proofs.lemmas.Bool.{cases_lt}
use borrow.Author.Tests.{ltb-true}
use Rattle.std.specs.Prelude.{All, Contains, Result, Ok, Err, Option, Some, None, ◌⊎◌, nat_le}
use borrow.Author.Tests.{leb-true, leb-false}
use Rattle.adr_refusal.specs.Answer.{Answers}
use Rattle.adr_refusal.specs.Faults.{none, least, least_of, least_fault, lesser_of, unless_refused, judged, IsLeast, Gives, IsRefusedFor}
use Rattle.adr_refusal.specs.Refusal.{number_of}
use Rattle.adr_refusal.specs.declared.refusal.Refusal.{Refusal}
use Rattle.adr_refusal.specs.declared.refusal.Refusal.TheVariants.{NoMemory}

number_small : (f : Refusal) → ltb (number_of f) 100 ≡ true
number_small NoMemory = refl
number_small _ = refl

pub number_of_memory : (f : Refusal) → number_of f ≡ 99 → f ≡ NoMemory
number_of_memory NoMemory e = refl
number_of_memory _ e = absurd (omega arith)

pub number_of_le : (f : Refusal) → number_of f ≤ 99
number_of_le f = omega (arith, ltb-true (number_of f) 100 (number_small f))

pub least_le : (fs : List Refusal) → least fs ≤ none
least_le [] = lit≤ tt
least_le (f ∷ fs) = omega (arith, least_le fs)

pub least-append : (fs gs : List Refusal) → least (fs ++ gs) ≡ min (least fs) (least gs)
least-append [] gs = omega (arith, least_le gs)
least-append (f ∷ fs) gs = omega (arith, least-append fs gs)

-- a set whose least number is none's is empty
pub least_none : (fs : List Refusal) → least fs ≡ none → fs ≡ []
least_none [] h = refl
least_none (f ∷ fs) h = absurd (omega (arith, number_of_le f))

pub gives_ok : {A B : Type 0} (x a : A) (y b : B) (fs gs : List Refusal) → Gives (Ok x) fs a → Gives (Ok y) gs b → Gives {T = A × B} (Ok (x, y)) (fs ++ gs) (a, b)
gives_ok x a y b fs gs h k = (omega (arith, least-append fs gs, h.0, k.0), ap (λ v. (v, y)) h.1 ∙ ap (λ w. (a, w)) k.1)

pub gives_right : {A : Type 0} (f : Refusal) (x a : A) (fs gs : List Refusal) → Gives (Ok x) fs a → IsRefusedFor f (least gs) → IsRefusedFor f (least (fs ++ gs))
gives_right f x a fs gs h k = λ ne. omega (arith, least-append fs gs, h.0, k ne, least_le gs)

pub gives_left : {B : Type 0} (f : Refusal) (y b : B) (fs gs : List Refusal) → IsRefusedFor f (least fs) → Gives (Ok y) gs b → IsRefusedFor f (least (fs ++ gs))
gives_left f y b fs gs h k = λ ne. omega (arith, least-append fs gs, h ne, k.0, least_le fs)

-- ---- from numbers to members

pub record HasNumber (fs : List Refusal) (n : ℕ) : Type 0 where
  pub fault : Refusal
  pub within : Contains fs fault
  pub number : number_of fault ≡ n

later : (f : Refusal) (fs : List Refusal) (n : ℕ) → HasNumber fs n → HasNumber (f ∷ fs) n
later f fs n h = record { fault = h.fault; within = (suc h.within.0, omega (arith, h.within.1), h.within.2); number = h.number }

first_or_later : (f : Refusal) (fs : List Refusal) (n : ℕ) → least (f ∷ fs) ≡ n → n < 100 → (least fs ≡ n → HasNumber fs n) → (least fs < number_of f) ⊎ (number_of f ≤ least fs) → HasNumber (f ∷ fs) n
first_or_later f fs n e lt more (inr le) = record { fault = f; within = (0, omega arith, refl); number = omega (arith, e, le) }
first_or_later f fs n e lt more (inl gt) = later f fs n (more (omega (arith, e, gt)))

least_has : (fs : List Refusal) (n : ℕ) → least fs ≡ n → n < 100 → HasNumber fs n
least_has [] n e lt = absurd (omega (arith, e, lt))
least_has (f ∷ fs) n e lt = first_or_later f fs n e lt (λ h. least_has fs n h lt) (cases_lt (least fs) (number_of f))

at_least_cons : (f : Refusal) (fs : List Refusal) → All (λ g. least fs ≤ number_of g) fs → (k : ℕ) (d : Refusal) → k < length (f ∷ fs) → least (f ∷ fs) ≤ number_of (get_or (f ∷ fs) k d)
at_least_cons f fs h zero d lt = omega arith
at_least_cons f fs h (suc k) d lt = omega (arith, h k d (omega arith))

at_least : (fs : List Refusal) → All (λ g. least fs ≤ number_of g) fs
at_least [] = λ k d lt. absurd (omega arith)
at_least (f ∷ fs) = at_least_cons f fs (at_least fs)

-- the refusal of the least number is the least member
pub least_is : (f : Refusal) (fs : List Refusal) → number_of f ≡ least fs → IsLeast f fs
least_is f fs e =
    let h = least_has fs (number_of f) (sym e) (omega (arith, number_of_le f)) in
    let same : h.fault ≡ f = number_of-injective h.fault f h.number in
    record { member = subst (λ g. Contains fs g) same h.within; lower = λ k d lt. omega (arith, e, at_least fs k d lt) }

-- ---- the computing form

lesser-number : (b : Bool) (f g : Refusal) → nat_le (number_of f) (number_of g) ≡ b → number_of (cond b f g) ≡ min (number_of f) (number_of g)
lesser-number true f g e = omega (arith, leb-true (number_of f) (number_of g) e)
lesser-number false f g e = omega (arith, leb-false (number_of f) (number_of g) e)

lesser_of-number : (f : Refusal) (o : Option Refusal) → number_of (lesser_of f o) ≡ min (number_of f) (least_of o)
lesser_of-number f None = omega (arith, number_of_le f)
lesser_of-number f (Some g) = lesser-number _ f g refl

-- the least fault has the least number
pub least_fault-number : (fs : List Refusal) → least_of (least_fault fs) ≡ least fs
unfolding least_fault
least_fault-number [] = refl
least_fault-number (f ∷ fs) = omega (arith, lesser_of-number f (least_fault fs), least_fault-number fs)

pub least_is_least : (fs : List Refusal) (f : Refusal) → least_fault fs ≡ Some f → IsLeast f fs
least_is_least fs f e = least_is f fs (sym (ap least_of e) ∙ least_fault-number fs)

pub none_is_none : (fs : List Refusal) → least_fault fs ≡ None → fs ≡ []
none_is_none fs e = least_none fs (sym (least_fault-number fs) ∙ ap least_of e)

named : (o : Option Refusal) (f : Refusal) → number_of f ≡ least_of o → o ≡ Some f
named None f e = absurd (omega (arith, number_of_le f, e))
named (Some g) f e = ap (λ h. Some h) (number_of-injective g f (sym e))

nothing : (o : Option Refusal) → least_of o ≡ none → o ≡ None
nothing None e = refl
nothing (Some g) e = absurd (omega (arith, number_of_le g, e))

pub judged-ok : {T : Type 0} (fs : List Refusal) (v : T) → least fs ≡ none → judged fs v ≡ Ok v
judged-ok fs v e = ap (λ o. unless_refused o v) (nothing (least_fault fs) (least_fault-number fs ∙ e))

pub judged-err : {T : Type 0} (fs : List Refusal) (v : T) (f : Refusal) → number_of f ≡ least fs → judged fs v ≡ Err f
judged-err fs v f e = ap (λ o. unless_refused o v) (named (least_fault fs) f (e ∙ sym (least_fault-number fs)))

memory_or : (b : Bool) (f : Refusal) → ltb (number_of f) 99 ≡ b → (f ≡ NoMemory) ⊎ (number_of f ≡ 99 → ⊥)
memory_or true f e = inr (λ is. omega (arith, is, ltb-true (number_of f) 99 e))
memory_or false f e = inl (number_of_memory f (omega (arith, number_of_le f, borrow.Author.Tests.ltb-false (number_of f) 99 e)))

refused : {T : Type 0} (fs : List Refusal) (v : T) (f : Refusal) → IsRefusedFor f (least fs) → (f ≡ NoMemory) ⊎ (number_of f ≡ 99 → ⊥) → (f ≡ NoMemory) ⊎ (judged fs v ≡ Err f)
refused fs v f h (inl e) = inl e
refused fs v f h (inr ne) = inr (judged-err fs v f (h ne))

-- what the parts give together is the answer to the whole
pub answers : {T : Type 0} (r : Result T Refusal) (fs : List Refusal) (v : T) → Gives r fs v → Answers r (judged fs v)
answers (Ok x) fs v h = judged-ok fs v h.0 ∙ ap (λ y. Ok y) (sym h.1)
answers (Err f) fs v h = refused fs v f h (memory_or _ f refl)
