-- An entry that is found by its written number and place.
use Rattle.std.proofs.Common.{◌≡◌, ℕ, zero, suc, ◌<◌, Bool, true, false, not, ◌||◌, cond, List, [], ◌∷◌, ◌++◌, length, get_or, refl, sym, ◌∙◌, ap, arith, inl, inr}
use Rattle.std.specs.List.{list_any}
use Rattle.std.proofs.lemmas.Bool.{cases_Bool, false≢true, or_parts}
use Rattle.std.proofs.lemmas.Bool.Decides.{nat_tests}
use Rattle.std.proofs.lemmas.List.{length-append}
use Rattle.std.proofs.lemmas.List.Elements.{filter-append}
use Rattle.adr_model.specs.declared.entry.Entry.{Entry}
use Rattle.adr_model.specs.Entries.{is_listed_before}
use Rattle.adr_index.specs.Index.{is_entry, others, without}
use Rattle.adr_index.specs.Tables.{IsFound}
use Rattle.adr_index.proofs.Ordered.{listed_asym, listed_total, or_grouped}
use Rattle.adr_index.proofs.Placed.{others_fewer}

not_before_itself : (e : Entry) → is_listed_before e e ≡ false
not_before_itself e = elim (cases_Bool (is_listed_before e e)) [
  | inl before ↦ listed_asym e e before
  | inr behind ↦ behind
]

fewer_at : (es : List Entry) (i : ℕ) (e : Entry) → i < length es → e ≡ get_or es i e → length (others e es) < length es
fewer_at [] i e lt read = absurd (omega arith)
fewer_at (x ∷ xs) zero e lt read = rw (← read, not_before_itself e) (omega (arith, others_fewer e xs))
fewer_at (x ∷ xs) (suc i) e lt read = either (is_listed_before x e || is_listed_before e x) (fewer_at xs i e (omega arith) read)
  where
    either : (b : Bool) → length (others e xs) < length xs → length (cond b (x ∷ others e xs) (others e xs)) < suc (length xs)
    either true h = omega arith
    either false h = omega arith

any_at : (p : Entry → Bool) (es : List Entry) (i : ℕ) (e : Entry) → i < length es → e ≡ get_or es i e → p e ≡ true → list_any p es ≡ true
any_at p [] i e lt read h = absurd (omega arith)
any_at p (x ∷ xs) zero e lt read h = let first : p x ≡ true = rw (← read) h in rw first refl
any_at p (x ∷ xs) (suc i) e lt read h = rw (any_at p xs i e (omega arith) read h) (either (p x))
  where
    either : (b : Bool) → (b || true) ≡ true
    either true = refl
    either false = refl

pub found_at : (written place : ℕ) (es : List Entry) (i : ℕ) (e : Entry) → i < length es → e ≡ get_or es i e → is_entry written place e ≡ true → IsFound written place e es
found_at written place es i e lt read h = record { named = h; any = any_at (is_entry written place) es i e lt read h; fewer = fewer_at es i e lt read }

any_append : (p : Entry → Bool) (xs ys : List Entry) → list_any p (xs ++ ys) ≡ (list_any p xs || list_any p ys)
any_append p [] ys = refl
any_append p (x ∷ xs) ys = ap (λ (b : Bool). p x || b) (any_append p xs ys) ∙ or_grouped (p x) (list_any p xs) (list_any p ys)

-- what is found in a part is found in all
pub found_around : (written place : ℕ) (e : Entry) (front middle back : List Entry) → IsFound written place e middle → IsFound written place e (front ++ (middle ++ back))
found_around written place e front middle back h = record {
  named = h.named;
  any = rw (any_append (is_entry written place) front (middle ++ back), any_append (is_entry written place) middle back, h.any) (either (list_any (is_entry written place) front));
  fewer =
      rw (
        filter-append (λ x. is_listed_before x e || is_listed_before e x) front (middle ++ back),
        filter-append (λ x. is_listed_before x e || is_listed_before e x) middle back,
        length-append (others e front) (others e middle ++ others e back),
        length-append (others e middle) (others e back),
        length-append front (middle ++ back),
        length-append middle back,
      )
      (omega (arith, h.fewer, others_fewer e front, others_fewer e back));
}
  where
    either : (b : Bool) → (b || true) ≡ true
    either true = refl
    either false = refl

same_name : (written place : ℕ) (e x : Entry) → is_entry written place e ≡ true → is_entry e.rank.written e.rank.place x ≡ true → is_entry written place x ≡ true
same_name written place e x h k = grind (arith, nat_tests)

named_too : (written place : ℕ) (e x : Entry) → is_entry written place e ≡ true → (is_listed_before x e || is_listed_before e x) ≡ false → is_entry written place x ≡ true
named_too written place e x h k =
    let parts = or_parts (is_listed_before x e) (is_listed_before e x) k in
    elim (cases_Bool (is_entry e.rank.written e.rank.place x)) [
      | inl same ↦ same_name written place e x h same
      | inr differ ↦ absurd (false≢true (sym parts.1 ∙ listed_total x e parts.0 differ))
    ]

pub without_others : (written place : ℕ) (e : Entry) → is_entry written place e ≡ true → (es : List Entry) → without written place (others e es) ≡ without written place es
without_others written place e h [] = refl
without_others written place e h (x ∷ xs) = either (is_listed_before x e || is_listed_before e x) refl (without_others written place e h xs)
  where
    either : (b : Bool) → (is_listed_before x e || is_listed_before e x) ≡ b → without written place (others e xs) ≡ without written place xs → without written place (cond b (x ∷ others e xs) (others e xs)) ≡ without written place (x ∷ xs)
    either true k rest = ap (λ (ys : List Entry). cond (not (is_entry written place x)) (x ∷ ys) ys) rest
    either false k rest = rw (named_too written place e x h k) rest

pub without_none : (written place : ℕ) (es : List Entry) → list_any (is_entry written place) es ≡ false → without written place es ≡ es
without_none written place [] h = refl
without_none written place (e ∷ es) h =
    let parts = or_parts (is_entry written place e) (list_any (is_entry written place) es) h in
    rw parts.0 (ap (λ (ys : List Entry). e ∷ ys) (without_none written place es parts.1))
