-- Places that get the writes of the events that apply to their resources.
use Rattle.std.proofs.Common.{◌≡◌, ℕ, zero, suc, ◌<◌, inl, inr, is_some, ◌==◌, ◌||◌, Bool, true, false, if◌then◌else◌, List, [], ◌∷◌, length, slice_get, find, Option, Some, None, refl, ap, ap₂, sym, subst, ◌∙◌, eqb-true, eq-eqb}
use Rattle.std.proofs.lemmas.Bool.{both_ways, false_from_ne_true}
use Rattle.std.proofs.lemmas.Option.{slice_get_within}
use Rattle.std.specs.Option.{option_and_then, option_map_or}
use Rattle.std.specs.Str.{bytes_eq}
use Rattle.adr_object.specs.declared.party.Program.{Program}
use Rattle.adr_object.specs.declared.party.Resource.{Resource}
use Rattle.adr_object.specs.declared.party.Ven.{Ven}
use Rattle.adr_model.specs.declared.entry.Tie.{Tie}
use Rattle.adr_model.specs.declared.written.Written.{Written}
use Rattle.adr_model.specs.Book.{Book, program_by, ven_by}
use Rattle.adr_model.specs.Governor.{applies_to}
use Rattle.adr_model.specs.Lists.{In}
use Rattle.adr_model.specs.Matching.{applies}
use Rattle.adr_model.specs.Whole.{IsWhole}
use Rattle.adr_audience.specs.Asks.{applies_with}
use Rattle.adr_lines.specs.Right.{has_number}
use Rattle.adr_schedule.specs.Moves.{is_among}
use Rattle.adr_schedule.specs.Place.{IsRewritten}
use Rattle.adr_schedule.specs.Seating.{has_at, AreRight, AreSeatedFor, Seating}
use Rattle.adr_regroup.specs.Party.{AreSeatedBut, AreWritesAt, AreWritesWith, KeepsEvents}
use Rattle.adr_regroup.proofs.Applying.{scenes}
use Rattle.adr_regroup.proofs.Placing.{has_group, has_place}

pub same_one : {X : Type 0} (o : Option X) (x y : X) → o ≡ Some x → o ≡ Some y → x ≡ y
same_one o x y h k = let e : Some x ≡ Some y = sym h ∙ k in cc e

-- ---- where an event applies

-- with the ven found
with_ven : (old : Book) (r : Resource) (v : Ven) (w : Written)
    → applies_with old r v w.event ≡ option_map_or applies (option_and_then (scenes w.event r (Some v)) (program_by old w.event.program_id)) false
with_ven old r v w = by (program_by old w.event.program_id)
  where
    by : (o : Option Program) → option_map_or (λ program. applies (record { program = program; event = w.event; ven = v; resource = r })) o false
        ≡ option_map_or applies (option_and_then (scenes w.event r (Some v)) o) false
    by None = refl
    by (Some p) = refl

-- it applies as it did where programs and the resource's ven are the same
pub applies_same : (old new : Book) (r : Resource) (w : Written) → new.programs ≡ old.programs → ven_by new r.ven_id ≡ ven_by old r.ven_id → applies_to old r w ≡ applies_to new r w
applies_same old new r w programs vens =
    ap₂ (λ (o : Option Ven) (q : Option Program). option_map_or applies (option_and_then (scenes w.event r o) q) false) (sym vens)
    (ap (λ (ps : List Program). find (λ p. bytes_eq w.event.program_id p.id) ps) (sym programs))

with_them : (old new : Book) (r : Resource) (v : Ven) (w : Written) → KeepsEvents old new → ven_by new r.ven_id ≡ Some v → applies_with old r v w.event ≡ applies_to new r w
with_them old new r v w k found =
    with_ven old r v w
    ∙ ap₂ (λ (o : Option Ven) (q : Option Program). option_map_or applies (option_and_then (scenes w.event r o) q) false) (sym found)
    (ap (λ (ps : List Program). find (λ p. bytes_eq w.event.program_id p.id) ps) (sym k.programs))

pub written_at_place : (old new : Book) (place : ℕ) (r : Resource) (v : Ven) (numbers : List ℕ) → KeepsEvents old new → slice_get new.resources place ≡ Some r → ven_by new r.ven_id ≡ Some v
    → AreWritesWith old r v numbers → AreWritesAt new place numbers
written_at_place old new place r v numbers k at found h = record {
  has = λ q w here m.
      subst (λ (x : Resource). has_number numbers w.written ≡ applies_to new x w) (same_one (slice_get new.resources place) r q at here)
      (h.has w (subst (λ es. In w es) k.events m) ∙ with_them old new r v w k found);
  known = λ n t. let f = h.known n t in (f.0, subst (λ es. In f.0 es) (sym k.events) f.1, f.2);
}

-- ---- one place after the other

apart_turned : (p q : ℕ) → (p == q) ≡ false → (q == p) ≡ false
apart_turned p q e = false_from_ne_true (q == p) (λ t. false_is (sym e ∙ eq-eqb p q (sym (eqb-true q p t))))
  where
    false_is : false ≡ true → ⊥
    false_is h = absurd (cc)

pub next_seated : (tie : Tie) (book : Book) (place : ℕ) (others numbers : List ℕ) (s after : Seating) → AreSeatedBut tie book (place ∷ others) s → IsRewritten place numbers s after
    → AreRight tie book.events after → AreWritesAt book place numbers → AreSeatedBut tie book others after
next_seated tie book place others numbers s after h w right a = record {
  count = w.count ∙ h.count;
  right = right;
  writes = λ p r x at m apart. writes p r x at m apart (p == place) refl;
  known = λ p n e. known p n e (p == place) refl;
}
  where
    writes : (p : ℕ) (r : Resource) (x : Written) → slice_get book.resources p ≡ Some r → In x book.events → is_among others p ≡ false → (b : Bool) → (p == place) ≡ b
        → has_at after p x.written ≡ applies_to book r x
    writes p r x at m apart b e = w.writes p x.written (subst (λ k. p < k) (sym h.count) (slice_get_within book.resources p r at)) ∙ by b e
      where
        by : (c : Bool) → (p == place) ≡ c → (if p == place then has_number numbers x.written else has_at s p x.written) ≡ applies_to book r x
        by true t = ap (λ c. if c then has_number numbers x.written else has_at s p x.written) t ∙ a.has r x (subst (λ q. slice_get book.resources q ≡ Some r) (eqb-true p place t) at) m
        by false t =
            ap (λ c. if c then has_number numbers x.written else has_at s p x.written) t
            ∙ h.writes p r x at m (ap (λ c. c || is_among others p) (apart_turned p place t) ∙ apart)

    known : (p n : ℕ) → has_at after p n ≡ true → (b : Bool) → (p == place) ≡ b → (x : Written) × In x book.events × (x.written ≡ n)
    known p n e b t = by b t (sym (w.writes p n inside) ∙ e)
      where
        inside : p < length s.seats
        inside = let g = has_group after p n e in subst (λ k. p < k) w.count (has_place after p g.0 g.1)

        by : (c : Bool) → (p == place) ≡ c → (if p == place then has_number numbers n else has_at s p n) ≡ true → (x : Written) × In x book.events × (x.written ≡ n)
        by true q k = a.known n (sym (ap (λ c. if c then has_number numbers n else has_at s p n) q) ∙ k)
        by false q k = h.known p n (sym (ap (λ c. if c then has_number numbers n else has_at s p n) q) ∙ k)

pub all_seated : (tie : Tie) (book : Book) (s : Seating) → AreSeatedBut tie book [] s → AreSeatedFor tie book s
all_seated tie book s h = record {
  count = h.count;
  right = h.right;
  writes = λ p r w at m. h.writes p r w at m refl;
  known = h.known;
}

-- a resource of a whole book has a ven
pub no_ven : (book : Book) (place : ℕ) (r : Resource) → IsWhole book → slice_get book.resources place ≡ Some r → ven_by book r.ven_id ≡ None → ⊥
no_ven book place r whole at none = absurd (both_ways (is_some (ven_by book r.ven_id)) (ap (λ (o : Option Ven). is_some o) none) (whole.vens r (in_place book.resources place r at)))
  where
    in_place : (rs : List Resource) (p : ℕ) (x : Resource) → slice_get rs p ≡ Some x → In x rs
    in_place [] p x h = absurd (cc)
    in_place (y ∷ ys) zero x h = let e : y ≡ x = cc in inl e
    in_place (y ∷ ys) (suc p) x h = inr (in_place ys p x h)

-- ---- all places, one after the other

pub first_among : (place : ℕ) (others : List ℕ) (n : ℕ) → ((p : ℕ) → is_among (place ∷ others) p ≡ true → p < n) → place < n
first_among place others n within = within place (ap (λ b. b || is_among others place) (eq-eqb place place refl))

pub later_among : (place : ℕ) (others : List ℕ) (n : ℕ) → ((p : ℕ) → is_among (place ∷ others) p ≡ true → p < n) → (p : ℕ) → is_among others p ≡ true → p < n
later_among place others n within p m = within p (or_right (place == p) (is_among others p) m)
  where
    or_right : (a b : Bool) → b ≡ true → (a || b) ≡ true
    or_right true b e = refl
    or_right false b e = e
