-- The candidates of a book, event by event.
use Rattle.std.proofs.Common.{◌≡◌, ℕ, ℤ, Bool, true, false, List, [], ◌∷◌, Option, None, Some, refl, ap, sym, ◌∙◌, filter, flat_map}
use Rattle.std.specs.List.{IsDistinct}
use Rattle.std.specs.Str.{bytes_eq}
use Rattle.std.specs.Bool.{then_some}
use Rattle.std.specs.Option.{option_map_or, option_and_then}
use Rattle.std.proofs.lemmas.List.Folds.{flat_map-map}
use Rattle.adr_value.specs.declared.payload.PayloadType.{PayloadType}
use Rattle.adr_time.specs.Spans.{covers}
use Rattle.adr_object.specs.declared.party.Resource.{Resource}
use Rattle.adr_model.specs.declared.entry.Entry.{Entry}
use Rattle.adr_model.specs.declared.written.Written.{Written}
use Rattle.adr_model.specs.Book.{Book, resource_by, event_by}
use Rattle.adr_model.specs.Governor.{entries_of, applies_to, candidates}
use Rattle.adr_model.specs.Touches.{applying}
use Rattle.adr_model.specs.Lists.{In}
use Rattle.adr_model.specs.Whole.{event_ids}
use Rattle.adr_model.proofs.Lists.{flat_map-same, filter-flat_map}
use Rattle.adr_model.proofs.Keyed.{own_key, found, event_id}

-- what a write that may apply gives at an instant
abbrev pub live : PayloadType → ℤ → Option Written → List Entry
live kind t o = option_map_or (λ w. filter (λ e. covers e.span t) (entries_of kind w)) o []

nothing_at_all : {X Y : Type 0} (xs : List X) → flat_map {A = Y} (λ x. []) xs ≡ []
nothing_at_all [] = refl
nothing_at_all (x ∷ xs) = nothing_at_all xs

pub candidates_by_id : (book : Book) (id : List ℕ) (kind : PayloadType) (t : ℤ) → IsDistinct bytes_eq (event_ids book)
    → candidates book id kind t ≡ flat_map (λ e. live kind t (applying book id e)) (event_ids book)
unfolding candidates
candidates_by_id book id kind t d = by (resource_by book id)
  where
    by : (o : Option Resource)
        → filter (λ e. covers e.span t) (option_map_or (λ resource. flat_map (entries_of kind) (filter (applies_to book resource) book.events)) o [])
        ≡ flat_map (λ e. live kind t (option_and_then (λ r. option_and_then (λ w. then_some (applies_to book r w) w) (event_by book e)) o)) (event_ids book)
    by None = sym (nothing_at_all (event_ids book))
    by (Some r) =
        filter-flat_map (λ e. covers e.span t) (entries_of kind) (applies_to book r) book.events
        ∙ flat_map-same _ _ book.events
        (λ w m. sym (ap (λ (o : Option Written). live kind t (option_and_then (λ v. then_some (applies_to book r v) v) o)) (own_key event_id book.events d w m)))
        ∙ sym (flat_map-map (λ e. live kind t (option_and_then (λ w. then_some (applies_to book r w) w) (event_by book e))) (λ v. v.event.id) book.events)

-- nothing applies to a resource that is not there
pub no_resource : (book : Book) (id e : List ℕ) → resource_by book id ≡ None → applying book id e ≡ None
no_resource book id e h = rw h

-- nor does an event that is not there
pub no_event : (book : Book) (id e : List ℕ) → event_by book e ≡ None → applying book id e ≡ None
no_event book id e h = rw h (by (resource_by book id))
  where
    by : (o : Option Resource) → option_and_then {U = Written} (λ r. None) o ≡ None
    by None = refl
    by (Some r) = refl

-- a write that applies is the one that the event's id leads to
pub applying_event : (book : Book) (id e : List ℕ) (w : Written) → applying book id e ≡ Some w → event_by book e ≡ Some w
applying_event book id e w h = by (resource_by book id) (event_by book e) h
  where
    inner : (r : Resource) (v : Written) (b : Bool) → then_some b v ≡ Some w → Some v ≡ Some w
    inner r v true s = s
    inner r v false s = absurd (cc)

    by : (o : Option Resource) (p : Option Written) → option_and_then (λ r. option_and_then (λ v. then_some (applies_to book r v) v) p) o ≡ Some w → p ≡ Some w
    by None p s = absurd (cc)
    by (Some r) None s = absurd (cc)
    by (Some r) (Some v) s = inner r v (applies_to book r v) s

-- a write that applies is there, under its id
pub applying_there : (book : Book) (id e : List ℕ) (w : Written) → applying book id e ≡ Some w → In w book.events × (w.event.id ≡ e)
applying_there book id e w h = found event_id e book.events w (applying_event book id e w h)
