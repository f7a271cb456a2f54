-- Where the events of a program come and go as it changes.
use Rattle.std.proofs.Common.{◌≡◌, ℕ, zero, suc, ◌+◌, ◌<◌, ◌≤◌, ◌==◌, ◌&&◌, ◌||◌, ◌⊎◌, inl, inr, Bool, true, false, not, List, [], ◌∷◌, ◌++◌, length, get_or, filter, slice_get, Option, Some, is_some, refl, ap, sym, subst, ◌∙◌, arith, eqb-true}
use Rattle.std.proofs.lemmas.Bool.{false_from_ne_true}
use Rattle.std.proofs.lemmas.Option.{slice_get_within}
use Rattle.std.specs.Option.{option_map_or, option_and_then}
use Rattle.std.specs.Str.{bytes_eq}
use Rattle.adr_object.specs.declared.party.Program.{Program}
use Rattle.adr_object.specs.declared.party.Resource.{Resource}
use Rattle.adr_model.specs.declared.entry.Tie.{Tie}
use Rattle.adr_model.specs.declared.written.Written.{Written}
use Rattle.adr_model.specs.Book.{Book, program_by, ven_by}
use Rattle.adr_model.specs.Governor.{applies_to}
use Rattle.adr_model.specs.Lists.{In}
use Rattle.adr_model.specs.Matching.{applies}
use Rattle.adr_audience.specs.Laws.{applying_places}
use Rattle.adr_audience.proofs.Placed.{found_own, found_other}
use Rattle.adr_schedule.specs.Moves.{is_among}
use Rattle.adr_schedule.specs.Seating.{Seating, AreSeatedFor}
use Rattle.adr_schedule.proofs.Numbered.{one_or_other}
use Rattle.adr_regroup.specs.Party.{AreSeatedBut}
use Rattle.adr_regroup.specs.Program.{with_program, AreMarked, AreThoseMarked, IsMarking}
use Rattle.adr_regroup.proofs.Applying.{among_applying, among_filter, scenes}

-- ---- the places that are marked

module _ (marks : List Bool) (place : ℕ) (places : List ℕ) (h : AreThoseMarked marks place places) where
  at_end : (p : ℕ) → is_among (places ++ place ∷ []) p ≡ (is_among places p || (place == p))
  at_end p = by places
    where
      by : (xs : List ℕ) → is_among (xs ++ place ∷ []) p ≡ (is_among xs p || (place == p))
      by [] = or_false (place == p)
        where
          or_false : (b : Bool) → (b || false) ≡ b
          or_false true = refl
          or_false false = refl
      by (x ∷ xs) = ap (λ b. (x == p) || b) (by xs) ∙ sym (assoc (x == p) (is_among xs p) (place == p))
        where
          assoc : (a b c : Bool) → ((a || b) || c) ≡ (a || (b || c))
          assoc true b c = refl
          assoc false b c = refl

  not_before : (p : ℕ) → place ≤ p → is_among places p ≡ false
  not_before p l = false_from_ne_true (is_among places p) (λ t. let b = h.before p t in absurd (omega (arith, b, l)))

  apart_from : (p : ℕ) → (p ≡ place → ⊥) → (place == p) ≡ false
  apart_from p e = false_from_ne_true (place == p) (λ t. e (sym (eqb-true place p t)))

-- ---- places of a list

pub In_at : {X : Type 0} (xs : List X) (i : ℕ) (x : X) → slice_get xs i ≡ Some x → In x xs
In_at [] i x h = absurd (cc)
In_at (y ∷ ys) zero x h = let e : y ≡ x = cc in inl e
In_at (y ∷ ys) (suc i) x h = inr (In_at ys i x h)

at_In : {X : Type 0} (xs : List X) (x : X) → In x xs → (i : ℕ) × (slice_get xs i ≡ Some x)
at_In [] x m = absurd m
at_In {X = X} (y ∷ ys) x (inl e) = (0, ap (λ (z : X). Some z) e)
at_In (y ∷ ys) x (inr m) = let r = at_In ys x m in (suc r.0, r.1)

same_at : (o : Option Written) (w v : Written) → o ≡ Some w → o ≡ Some v → w ≡ v
same_at o w v a b = cc

-- ---- one event

-- with the old program a, with the new one b
stays_is : (a b gains loses : Bool) → gains ≡ (b && not a) → loses ≡ (a && not b) → gains ≡ false → loses ≡ false → b ≡ a
stays_is true true gains loses x y g l = refl
stays_is false false gains loses x y g l = refl
stays_is true false gains loses x y g l = absurd (cc (sym y ∙ l))
stays_is false true gains loses x y g l = absurd (cc (sym x ∙ g))

module _ (old : Book) (program : Program) where
  applies_other : (r : Resource) (w : Written) → bytes_eq program.id w.event.program_id ≡ false → applies_to (with_program old program) r w ≡ applies_to old r w
  applies_other r w e =
      ap (λ (o : Option Program). option_map_or applies (option_and_then (scenes w.event r (ven_by old r.ven_id)) o) false)
      (found_other (λ (x : Program). x.id) program w.event.program_id old.programs e)

  module _ (i : ℕ) (w : Written) (at : slice_get old.events i ≡ Some w) where
    by_place : (marks : List Bool) → AreMarked old (with_program old program) i marks
        → ((p : ℕ) (r : Resource) → slice_get old.resources p ≡ Some r → get_or marks p false ≡ false → applies_to (with_program old program) r w ≡ applies_to old r w)
        → AreMarked old (with_program old program) (i + 1) marks
    by_place marks h own = record { count = h.count; same = λ p k r v a b l e. same p k r v a b l e (one_or_other k i) }
      where
        same : (p k : ℕ) (r : Resource) (v : Written) → slice_get old.resources p ≡ Some r → slice_get old.events k ≡ Some v → k < i + 1 → get_or marks p false ≡ false
            → (k ≡ i) ⊎ (k ≡ i → ⊥) → applies_to (with_program old program) r v ≡ applies_to old r v
        same p k r v a b l e (inl q) =
            subst (λ (z : Written). applies_to (with_program old program) r z ≡ applies_to old r z) (same_at (slice_get old.events i) w v at (subst (λ x. slice_get old.events x ≡ Some v) q b)) (own p r a e)
        same p k r v a b l e (inr q) = h.same p k r v a b (omega (arith, l, q)) e

    pub after_other : (marks : List Bool) → AreMarked old (with_program old program) i marks → bytes_eq program.id w.event.program_id ≡ false → AreMarked old (with_program old program) (i + 1) marks
    after_other marks h apart = by_place marks h (λ p r a e. applies_other r w apart)

    module _ (was : Program) (there : program_by old program.id ≡ Some was) (own : program.id ≡ w.event.program_id) (lost gained : List ℕ)
        (loses : lost ≡ filter (λ p. not (is_among (applying_places old w.event program) p)) (applying_places old w.event was))
        (gains : gained ≡ filter (λ p. not (is_among (applying_places old w.event was) p)) (applying_places old w.event program)) where
      with_old : program_by old w.event.program_id ≡ Some was
      with_old = subst (λ id. program_by old id ≡ Some was) own there

      with_new : program_by (with_program old program) w.event.program_id ≡ Some program
      with_new = subst (λ id. program_by (with_program old program) id ≡ Some program) own (found_own (λ (x : Program). x.id) program old.programs (ap is_some there))

      stays : (p : ℕ) (r : Resource) → slice_get old.resources p ≡ Some r → is_among lost p ≡ false → is_among gained p ≡ false → applies_to (with_program old program) r w ≡ applies_to old r w
      stays p r a no_loss no_gain =
          let before : is_among (applying_places old w.event was) p ≡ applies_to old r w = among_applying old w.event was p r w.written with_old a in
          let later : is_among (applying_places old w.event program) p ≡ applies_to (with_program old program) r w = among_applying (with_program old program) w.event program p r w.written with_new a in
          sym later
          ∙ stays_is (is_among (applying_places old w.event was) p) (is_among (applying_places old w.event program) p) (is_among gained p) (is_among lost p)
          (ap (λ ps. is_among ps p) gains ∙ among_filter (λ q. not (is_among (applying_places old w.event was) q)) (applying_places old w.event program) p)
          (ap (λ ps. is_among ps p) loses ∙ among_filter (λ q. not (is_among (applying_places old w.event program) q)) (applying_places old w.event was) p)
          no_gain no_loss
          ∙ before

      pub after_own : (marks mid after : List Bool) → AreMarked old (with_program old program) i marks → IsMarking marks mid lost [] → IsMarking mid after gained []
          → AreMarked old (with_program old program) (i + 1) after
      after_own marks mid after h first second = by_place after kept (λ p r a e.
          let s = second.left p (inside_mid p r a) e in
          let f = first.left p (inside p r a) s.0 in
          stays p r a f.1 s.1)
        where
          inside : (p : ℕ) (r : Resource) → slice_get old.resources p ≡ Some r → p < length marks
          inside p r a = subst (λ k. p < k) (sym h.count) (slice_get_within old.resources p r a)

          inside_mid : (p : ℕ) (r : Resource) → slice_get old.resources p ≡ Some r → p < length mid
          inside_mid p r a = subst (λ k. p < k) (sym first.count) (inside p r a)

          kept : AreMarked old (with_program old program) i after
          kept = record {
            count = second.count ∙ first.count ∙ h.count;
            same = λ p k r v a b l e. h.same p k r v a b l (first.left p (inside p r a) (second.left p (inside_mid p r a) e).0).0;
          }

  -- ---- all events

  pub left_to_reseat : (tie : Tie) (marks : List Bool) (places : List ℕ) (s : Seating) → AreMarked old (with_program old program) (length old.events) marks
      → AreThoseMarked marks (length marks) places → AreSeatedFor tie old s → AreSeatedBut tie (with_program old program) places s
  left_to_reseat tie marks places s m t h = record {
    count = h.count;
    right = h.right;
    writes = λ p r w a e apart.
        let q = at_In old.events w e in
        let inside : p < length marks = subst (λ k. p < k) (sym m.count) (slice_get_within old.resources p r a) in
        h.writes p r w a e ∙ sym (m.same p q.0 r w a q.1 (slice_get_within old.events q.0 w q.1) (sym (t.are p inside) ∙ apart));
    known = h.known;
  }
