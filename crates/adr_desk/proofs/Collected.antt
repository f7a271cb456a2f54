-- What many threads answered, each for items of its own, is what was collected.
use Rattle.std.proofs.Common.{◌≡◌, ℕ, zero, suc, ◌<◌, List, [], ◌∷◌, length, map, subst, sym, arith}
use Rattle.std.specs.List.{AllZip, Contains, slice_index_or}
use Rattle.std.specs.Prelude.{Result, Ok, Err, IfOk, MatchResult}
use Rattle.adr_refusal.specs.Answer.{OnlyNoMemory}
use Rattle.adr_refusal.specs.declared.refusal.Refusal.{Refusal}
use Rattle.adr_refusal.specs.declared.refusal.Refusal.TheVariants.{NoMemory}

module _ {X Y : Type 0} (P : X → Y → Type 0) where
  -- the item has its answer, or there was no memory for it
  abbrev pub IsAnsweredBy : X → Result Y Refusal → Type 0
  IsAnsweredBy x r = MatchResult r (P x) (λ refusal. refusal ≡ NoMemory)

  all_made : (xs : List X) (ys : List Y) → AllZip IsAnsweredBy xs (map Ok ys) → AllZip P xs ys
  all_made [] [] h = tt
  all_made [] (y ∷ ys) h = absurd h
  all_made (x ∷ xs) [] h = absurd h
  all_made (x ∷ xs) (y ∷ ys) h = (h.0, all_made xs ys h.1)

  -- a refusal among them is want of memory
  refused : (xs : List X) (rs : List (Result Y Refusal)) (f : Refusal) → AllZip IsAnsweredBy xs rs → (k : ℕ) → k < length rs → slice_index_or rs k (Err f) ≡ Err f → f ≡ NoMemory
  refused [] [] f h k le e = absurd (omega (arith, le))
  refused [] (r ∷ rs) f h k le e = absurd h
  refused (x ∷ xs) [] f h k le e = absurd h
  refused (x ∷ xs) (r ∷ rs) f h zero le e = subst (λ q. MatchResult q (P x) (λ g. g ≡ NoMemory)) e h.0
  refused (x ∷ xs) (r ∷ rs) f h (suc k) le e = refused xs rs f h.1 k (omega (arith, le)) e

  module _ {V : Type 0} (items : V → List Y) (xs : List X) (rs : List (Result Y Refusal)) (each : AllZip IsAnsweredBy xs rs) where
    -- each item has its answer, in order
    pub answers_collected : (result : Result V Refusal) → MatchResult result (λ v. (ys : List Y) × (rs ≡ map Ok ys) × (items v ≡ ys)) (λ e. Contains rs (Err e))
        → IfOk result (λ v. AllZip P xs (items v))
    answers_collected (Ok v) h = subst (AllZip P xs) (sym h.2) (all_made xs h.0 (subst (AllZip IsAnsweredBy xs) h.1 each))
    answers_collected (Err e) h = tt

    pub refusal_collected : (result : Result V Refusal) → MatchResult result (λ v. (ys : List Y) × (rs ≡ map Ok ys) × (items v ≡ ys)) (λ e. Contains rs (Err e))
        → OnlyNoMemory result
    refusal_collected (Ok v) h = tt
    refusal_collected (Err e) h = refused xs rs e each h.0 h.1 h.2
