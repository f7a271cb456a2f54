-- What a further member of an object leaves as it is.
use Rattle.std.proofs.Common.{◌≡◌, ℕ, List, [], ◌∷◌, ◌++◌, ◌||◌, Bool, true, false, Option, refl, sym, ◌∙◌, subst}
use Rattle.std.specs.Prelude.{Result}
use Rattle.std.specs.Str.{bytes_eq}
use Rattle.std.proofs.lemmas.List.Folds.{list_any-append}
use Rattle.std.proofs.lemmas.Slice.Eq.{bytes_eq-Decides}
use Rattle.serde_json.specs.Data.{Data, Members, object, put}
use Rattle.serde_json.proofs.Views.{get_member-put_other}
use Rattle.adr_refusal.specs.declared.refusal.Refusal.{Refusal}
use Rattle.adr_read.specs.Looking.{present, member_at}
use Rattle.adr_read.specs.Members.{Holds, is_among}

other_name : (name n : List ℕ) (b : Bool) → bytes_eq name n ≡ b → (b || false) ≡ false → n ≡ name → ⊥
other_name name n true is e same = absurd cc
other_name name n false is e same = let same_bytes = (bytes_eq-Decides name n).1 (sym same) in cc

-- a member of another name is what it was
pub kept : {T : Type 0} (faults : Data → List Refusal) (stands_for : Data → T) (value : Option (Result T Refusal)) (n name : List ℕ) (d : Data) (ms : Members)
    → is_among name (n ∷ []) ≡ false → Holds faults stands_for value (member_at n (object ms)) → Holds faults stands_for value (member_at n (object (put name d ms)))
kept faults stands_for value n name d ms other holds =
    subst (λ o. Holds faults stands_for value (present o)) (sym (get_member-put_other n name d ms (other_name name n _ refl other))) holds

neither : (a b : Bool) → (a || b) ≡ false → (a ≡ false) × (b ≡ false)
neither true b e = absurd cc
neither false b e = (refl, e)

-- what is none of all names is none of either part's
pub among_both : (name : List ℕ) (xs ys : List (List ℕ)) → is_among name (xs ++ ys) ≡ false → (is_among name xs ≡ false) × (is_among name ys ≡ false)
among_both name xs ys e = neither _ _ (sym (list_any-append (bytes_eq name) xs ys) ∙ e)
