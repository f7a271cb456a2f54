-- What an edit of no event leaves.
use Rattle.std.proofs.Common.{◌≡◌, ◌≢◌, ◌∙◌, Ok, refl, ap}
use Rattle.adr_object.specs.declared.object.Object.TheVariants.{Program as program, Event as event_object, Ven as ven, Resource as resource}
use Rattle.adr_object.specs.declared.object.Kind.TheVariants.{Program as program_kind, Event as event_kind, Ven as ven_kind, Resource as resource_kind}
use Rattle.adr_object.specs.declared.object.Edit.{Edit}
use Rattle.adr_object.specs.declared.object.Edit.TheVariants.{Create, Change, Remove}
use Rattle.adr_model.specs.Book.{Book}
use Rattle.adr_model.specs.Edits.{made, step}
use Rattle.adr_model.proofs.EditLemmas.{accepted}
use Rattle.adr_regroup.specs.Kinds.{kind_of_edit}

made_events : (old : Book) (edit : Edit) → kind_of_edit edit ≢ event_kind → old.events ≡ (made old edit).events
made_events old (Create (program x)) h = refl
made_events old (Create (event_object x)) h = absurd (h refl)
made_events old (Create (ven x)) h = refl
made_events old (Create (resource x)) h = refl
made_events old (Change (program x)) h = refl
made_events old (Change (event_object x)) h = absurd (h refl)
made_events old (Change (ven x)) h = refl
made_events old (Change (resource x)) h = refl
made_events old (Remove program_kind id) h = refl
made_events old (Remove event_kind id) h = absurd (h refl)
made_events old (Remove ven_kind id) h = refl
made_events old (Remove resource_kind id) h = refl

pub other_events : (old new : Book) (edit : Edit) → kind_of_edit edit ≢ event_kind → step old edit ≡ Ok new → old.events ≡ new.events
other_events old new edit h k = made_events old edit h ∙ ap (λ (b : Book). b.events) (accepted old new edit k).1
