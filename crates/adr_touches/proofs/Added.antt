-- The ids of two books, those that the second adds after those of the first.
use Rattle.std.proofs.Common.{◌≡◌, ℕ, ◌∙◌, Bool, true, false, not, List, ◌++◌, map, Option, refl, ap, sym, filter}
use Rattle.std.specs.Prelude.{is_some}
use Rattle.std.specs.List.{list_any}
use Rattle.std.specs.Str.{bytes_eq}
use Rattle.adr_model.specs.Book.{Book, resource_by, event_by}
use Rattle.adr_model.specs.Touches.{ids_of_both}
use Rattle.adr_model.proofs.Keyed.{event_id, is_found, resource_id}

twice : (b : Bool) → b ≡ not (not b)
twice true = refl
twice false = refl

-- where there is no such place, the book's ids have not this one
module _ (book : Book) (id : List ℕ) (place : Option ℕ) (absent : Bool) where
  pub no_resource : is_some place ≡ not absent → is_some place ≡ is_some (resource_by book id) → absent ≡ not (list_any (bytes_eq id) (map (λ r. r.id) book.resources))
  no_resource a h = twice absent ∙ ap not (sym a ∙ h ∙ is_found resource_id id book.resources)

  pub no_event : is_some place ≡ not absent → is_some place ≡ is_some (event_by book id) → absent ≡ not (list_any (bytes_eq id) (map (λ w. w.event.id) book.events))
  no_event a h = twice absent ∙ ap not (sym a ∙ h ∙ is_found event_id id book.events)

-- what one list adds to another, through what each call answered
pub joined : (all ids added more old new : List (List ℕ)) → all ≡ ids ++ more → ids ≡ old → more ≡ filter (λ id. not (list_any (bytes_eq id) old)) added → added ≡ new
    → all ≡ ids_of_both old new
joined all ids added more old new is i m a =
    is ∙ ap (λ (xs : List (List ℕ)). xs ++ more) i ∙ ap (λ (xs : List (List ℕ)). old ++ xs) (m ∙ ap (filter (λ id. not (list_any (bytes_eq id) old))) a)
