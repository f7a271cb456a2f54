-- Edits of programs: what they leave as it was.
use Rattle.std.proofs.Common.{◌≡◌, ℕ, ◌||◌, Bool, true, false, not, List, [], ◌++◌, Option, Some, None, is_some, refl, ap, ap₂, sym, subst, ◌∙◌, Ok, nat_le}
use Rattle.std.proofs.lemmas.Bool.{not-false}
use Rattle.std.specs.Option.{option_map_or, option_map, option_and_then}
use Rattle.std.specs.Str.{bytes_eq}
use Rattle.adr_value.specs.declared.limits.TheConstants.{MOST_VERSION}
use Rattle.adr_refusal.specs.declared.refusal.Refusal.{Refusal}
use Rattle.adr_refusal.specs.declared.refusal.Refusal.TheVariants.{NotThere, InUse, Full}
use Rattle.adr_object.specs.declared.event.Event.{Event}
use Rattle.adr_object.specs.declared.object.Object.{Object}
use Rattle.adr_object.specs.declared.object.Object.TheVariants.{Program as program_object, Event as event_object, Ven as ven_object, Resource as resource_object}
use Rattle.adr_object.specs.declared.object.Kind.{Kind}
use Rattle.adr_object.specs.declared.object.Kind.TheVariants.{Program as program_kind, Event as event_kind, Ven as ven_kind, Resource as resource_kind}
use Rattle.adr_object.specs.declared.object.Edit.TheVariants.{Create, Change, Remove}
use Rattle.adr_object.specs.declared.party.Program.{Program}
use Rattle.adr_model.specs.declared.entry.Tie.{Tie}
use Rattle.adr_model.specs.declared.written.Written.{Written}
use Rattle.adr_model.specs.Book.{Book, program_by, ven_by}
use Rattle.adr_model.specs.Edits.{faults, made, step, has_id, is_named, layout_faults, reference_faults, fault_if, is_full_for}
use Rattle.adr_model.specs.Matching.{applies}
use Rattle.adr_model.specs.Whole.{IsWhole}
use Rattle.adr_model.proofs.EditLemmas.{accepted}
use Rattle.adr_model.proofs.Steps.{no_fault, no_faults_before, no_faults_after}
use Rattle.adr_audience.proofs.Placed.{found_before, found_beside, none_has}
use Rattle.adr_schedule.specs.Seating.{Seating, AreSeatedFor}
use Rattle.adr_lines.specs.Grouped.{written_event}
use Rattle.adr_regroup.proofs.Applying.{scenes}
use Rattle.adr_regroup.specs.Kinds.{kind_of_edit}

-- ---- an event by its parts

pub event_is : (o : Option Written) (x : Event) → option_map (λ w. w.event) o ≡ Some x → (n : ℕ) × (o ≡ Some (written_event x n))
event_is None x e = absurd (cc)
event_is (Some w) x e = let a : w.event ≡ x = cc in (w.written, ap (λ (y : Event). Some (written_event y w.written)) a)

pub apart_of : (a b i j : List ℕ) → a ≡ i → b ≡ j → true ≡ not (bytes_eq a b) → bytes_eq i j ≡ false
apart_of a b i j e f h = by (bytes_eq i j) (h ∙ ap₂ (λ x y. not (bytes_eq x y)) e f)
  where
    by : (q : Bool) → true ≡ not q → q ≡ false
    by true k = absurd (cc)
    by false k = refl

pub same_of : (a b i j : List ℕ) → a ≡ i → b ≡ j → false ≡ not (bytes_eq a b) → bytes_eq i j ≡ true
same_of a b i j e f h = by (bytes_eq i j) (h ∙ ap₂ (λ x y. not (bytes_eq x y)) e f)
  where
    by : (q : Bool) → false ≡ not q → q ≡ true
    by true k = refl
    by false k = absurd (cc)

-- ---- a program that comes or goes

module _ (tie : Tie) (old : Book) (whole : IsWhole old) (s : Seating) (h : AreSeatedFor tie old s) where
  pub created_seated : (p : Program) → AreSeatedFor tie (made old (Create (program_object p))) s
  created_seated p = record {
    count = h.count;
    right = h.right;
    writes = λ place r w a m.
        h.writes place r w a m
        ∙ sym (ap (λ (o : Option Program). option_map_or applies (option_and_then (scenes w.event r (ven_by old r.ven_id)) o) false)
        (found_before (λ (x : Program). x.id) p w.event.program_id old.programs (whole.programs w m)));
    known = h.known;
  }

  pub removed_seated : (id : List ℕ) → is_named old program_kind id ≡ false → AreSeatedFor tie (made old (Remove program_kind id)) s
  removed_seated id free = record {
    count = h.count;
    right = h.right;
    writes = λ place r w a m.
        h.writes place r w a m
        ∙ sym (ap (λ (o : Option Program). option_map_or applies (option_and_then (scenes w.event r (ven_by old r.ven_id)) o) false)
        (found_beside (λ (x : Program). x.id) id w.event.program_id old.programs (none_has (λ (x : Written). bytes_eq id x.event.program_id) old.events free w m)));
    known = h.known;
  }

-- ---- of an accepted edit

there_to_change : (a b c d : List Refusal) → ((a ++ b) ++ c) ++ d ≡ [] → b ≡ []
there_to_change a b c d h = no_faults_after a b (no_faults_before (a ++ b) c (no_faults_before ((a ++ b) ++ c) d h))

pub program_there : (old : Book) (p : Program) → faults old (Change (program_object p)) ≡ [] → is_some (program_by old p.id) ≡ true
program_there old p g =
    not-false (has_id old program_kind p.id)
    (no_fault (not (has_id old program_kind p.id)) NotThere
    (let first : List Refusal = layout_faults (program_object p) in
    let second : List Refusal = fault_if (not (has_id old program_kind p.id)) NotThere in
    let third : List Refusal = reference_faults old (program_object p) in
    let fourth : List Refusal = fault_if (nat_le MOST_VERSION old.version || is_full_for old (Change (program_object p))) Full in
    there_to_change first second third fourth g))

unnamed_to_go : (a b c : List Refusal) → (a ++ b) ++ c ≡ [] → b ≡ []
unnamed_to_go a b c h = no_faults_after a b (no_faults_before (a ++ b) c h)

pub program_unnamed : (old : Book) (id : List ℕ) → faults old (Remove program_kind id) ≡ [] → is_named old program_kind id ≡ false
program_unnamed old id g =
    no_fault (is_named old program_kind id) InUse
    (let first : List Refusal = fault_if (not (has_id old program_kind id)) NotThere in
    let second : List Refusal = fault_if (is_named old program_kind id) InUse in
    let third : List Refusal = fault_if (nat_le MOST_VERSION old.version) Full in
    unnamed_to_go first second third g)

pub after_create : (tie : Tie) (old new : Book) (o : Object) (s : Seating) → IsWhole old → kind_of_edit (Create o) ≡ program_kind → step old (Create o) ≡ Ok new → AreSeatedFor tie old s → AreSeatedFor tie new s
after_create tie old new (program_object p) s whole t a h = subst (λ (b : Book). AreSeatedFor tie b s) (accepted old new (Create (program_object p)) a).1 (created_seated tie old whole s h p)
after_create tie old new (event_object e) s whole t a h = absurd (cc)
after_create tie old new (ven_object v) s whole t a h = absurd (cc)
after_create tie old new (resource_object r) s whole t a h = absurd (cc)

pub after_remove : (tie : Tie) (old new : Book) (k : Kind) (id : List ℕ) (s : Seating) → IsWhole old → kind_of_edit (Remove k id) ≡ program_kind → step old (Remove k id) ≡ Ok new → AreSeatedFor tie old s → AreSeatedFor tie new s
after_remove tie old new program_kind id s whole t a h =
    let x = accepted old new (Remove program_kind id) a in
    subst (λ (b : Book). AreSeatedFor tie b s) x.1 (removed_seated tie old whole s h id (program_unnamed old id x.0))
after_remove tie old new event_kind id s whole t a h = absurd (cc)
after_remove tie old new ven_kind id s whole t a h = absurd (cc)
after_remove tie old new resource_kind id s whole t a h = absurd (cc)
