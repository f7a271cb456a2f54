-- The ids of the objects of a book.
use Rattle.std.proofs.Common.{ℕ, List, map}
use Rattle.adr_model.specs.Book.{Book}

abbrev pub resource_ids : Book → List (List ℕ)
resource_ids book = map (λ r. r.id) book.resources

abbrev pub event_ids : Book → List (List ℕ)
event_ids book = map (λ w. w.event.id) book.events
