-- The places of the resources to which an event applies.
use Rattle.std.proofs.Common.{◌≡◌, ℕ, zero, suc, ◌+◌, ◌≤◌, Bool, true, false, cond, List, ◌∷◌, length, filter, Option, Some, None, slice_get, ap, sym, ◌∙◌, arith}
use Rattle.std.specs.List.{range_with_len}
use Rattle.std.specs.Option.{option_and_then, option_map, option_map_or}
use Rattle.adr_object.specs.declared.event.Event.{Event}
use Rattle.adr_object.specs.declared.object.Object.{Object}
use Rattle.adr_object.specs.declared.object.Object.TheVariants.{Event as event_object}
use Rattle.adr_object.specs.declared.party.Program.{Program}
use Rattle.adr_object.specs.declared.party.Resource.{Resource}
use Rattle.adr_model.specs.declared.written.Written.{Written}
use Rattle.adr_model.specs.Book.{Book, program_by, ven_by}
use Rattle.adr_model.specs.Governor.{applies_to}
use Rattle.adr_model.specs.Matching.{applies}
use Rattle.adr_audience.specs.Laws.{applies_in, applying_places}
use Rattle.adr_lines.specs.Grouped.{written_event}
use Rattle.adr_schedule.specs.Moves.{is_among}
use Rattle.adr_desk.specs.Edited.{made_of}
use Rattle.adr_regroup.proofs.Applying.{among_applying}

pub places_apply : (book : Book) (event : Event) (program : Program) (places : List ℕ) → program_by book event.program_id ≡ Some program → places ≡ applying_places book event program
    → (p : ℕ) (r : Resource) (n : ℕ) → slice_get book.resources p ≡ Some r → is_among places p ≡ applies_to book r (written_event event n)
places_apply book event program places there e p r n at = ap (λ ps. is_among ps p) e ∙ among_applying book event program p r n there at

-- an event whose program is not there applies to none
pub no_place_applies : (book : Book) (event : Event) → program_by book event.program_id ≡ None
    → (p : ℕ) (r : Resource) (n : ℕ) → slice_get book.resources p ≡ Some r → false ≡ applies_to book r (written_event event n)
no_place_applies book event none p r n at =
    sym (ap (λ (o : Option Program). option_map_or applies (option_and_then (λ program. option_map (λ ven. record { program = program; event = event; ven = ven; resource = r }) (ven_by book r.ven_id)) o) false) none)

filter_less : (f : ℕ → Bool) (a n : ℕ) → length (filter f (range_with_len a n)) ≤ n
filter_less f a zero = omega arith
filter_less f a (suc n) = by (f a) (filter_less f (a + 1) n)
  where
    by : (b : Bool) → length (filter f (range_with_len (a + 1) n)) ≤ n → length (cond b (a ∷ filter f (range_with_len (a + 1) n)) (filter f (range_with_len (a + 1) n))) ≤ suc n
    by true h = omega (arith, h)
    by false h = omega (arith, h)

pub no_more_places : (book : Book) (event : Event) (program : Program) (places : List ℕ) → places ≡ applying_places book event program → length places ≤ length book.resources
no_more_places book event program places e =
    let h = filter_less (λ place. option_map_or (applies_in book event program) (slice_get book.resources place) false) 0 (length book.resources) in rw e h

-- ---- events of edits

made_is : (book : Book) (o : Object) (e given : Event) (v : Written) → o ≡ event_object e → given ≡ e → made_of book o ≡ Some v → written_event given (book.version + 1) ≡ v
made_is book o e given v is same h = one (written_event given (book.version + 1)) v (ap (λ x. Some (written_event x (book.version + 1))) same ∙ sym (ap (made_of book) is) ∙ h)
  where
    one : (a b : Written) → Some a ≡ Some b → a ≡ b
    one a b k = cc

pub made_applies : (book : Book) (o : Object) (e given : Event) (places : List ℕ) → o ≡ event_object e → given ≡ e
    → ((p : ℕ) (r : Resource) (n : ℕ) → slice_get book.resources p ≡ Some r → is_among places p ≡ applies_to book r (written_event given n))
    → (p : ℕ) (r : Resource) (v : Written) → slice_get book.resources p ≡ Some r → made_of book o ≡ Some v → is_among places p ≡ applies_to book r v
made_applies book o e given places is same apply p r v at h = apply p r (book.version + 1) at ∙ ap (applies_to book r) (made_is book o e given v is same h)

found_is : (o : Option Written) (e : Event) (u : Written) → Some e ≡ option_map (λ w. w.event) o → o ≡ Some u → written_event e u.written ≡ u
found_is None e u h k = absurd (cc)
found_is (Some w) e u h k = let a : e ≡ w.event = cc in let b : w ≡ u = cc in ap (λ x. written_event x u.written) (a ∙ ap (λ (z : Written). z.event) b)

pub found_applies : (book : Book) (o : Option Written) (e : Event) (places : List ℕ) → Some e ≡ option_map (λ w. w.event) o
    → ((p : ℕ) (r : Resource) (n : ℕ) → slice_get book.resources p ≡ Some r → is_among places p ≡ applies_to book r (written_event e n))
    → (p : ℕ) (r : Resource) (u : Written) → slice_get book.resources p ≡ Some r → o ≡ Some u → is_among places p ≡ applies_to book r u
found_applies book o e places h apply p r u at k = apply p r u.written at ∙ ap (applies_to book r) (found_is o e u h k)
