-- What an editor does: edits by their parts, and publications.
use Rattle.std.specs.Prelude.{◌≡◌, ◌⊎◌, ◌+◌, ◌<◌, ◌≤◌, ℕ, ℤ, List, Result, Ok, Err, MatchResult}
use Rattle.adr_refusal.specs.Answer.{result_map, result_and_then}
use Rattle.adr_refusal.specs.declared.refusal.Refusal.{Refusal}
use Rattle.adr_refusal.specs.declared.refusal.Refusal.TheVariants.{Full, NoMemory}
use Rattle.adr_value.specs.declared.limits.TheConstants.{MOST_PUBLICATIONS}
use Rattle.adr_object.specs.declared.object.Edit.{Edit}
use Rattle.adr_object.specs.declared.object.Edit.TheVariants.{Create, Change, Remove}
use Rattle.adr_object.specs.declared.object.Kind.{Kind}
use Rattle.adr_object.specs.declared.object.Object.{Object}
use Rattle.adr_model.specs.declared.published.Published.{Published}
use Rattle.adr_model.specs.Book.{Book}
use Rattle.adr_model.specs.Edits.{full_at, step_to}
use Rattle.adr_model.specs.Kept.{Kept}
use Rattle.adr_object.specs.Id.{id_named}
use Rattle.adr_resolver.specs.Line.{object_of}
use Rattle.adr_embed.specs.Instants.{moment_at}

-- the object of a kind, an id, a body, and the moment of the edit: faults of the moment come before the id's, and the id's before those of the body
unfoldable pub object_named : ℤ → ℕ → Kind → List ℕ → List ℕ → Result Object Refusal
object_named seconds nanoseconds kind id body =
    result_and_then (λ now. result_and_then (λ name. object_of kind now name body) (id_named id)) (moment_at seconds nanoseconds)

abbrev pub created : ℤ → ℕ → Kind → List ℕ → List ℕ → Result Edit Refusal
created seconds nanoseconds kind id body = result_map Create (object_named seconds nanoseconds kind id body)

abbrev pub changed : ℤ → ℕ → Kind → List ℕ → List ℕ → Result Edit Refusal
changed seconds nanoseconds kind id body = result_map Change (object_named seconds nanoseconds kind id body)

abbrev pub removed : Kind → List ℕ → Result Edit Refusal
removed kind id = result_map (Remove kind) (id_named id)

-- the objects after an edit, or its least fault: those of its parts come before those of the objects that are there
abbrev pub after : Kept → Result Edit Refusal → Result Book Refusal
after kept edit = result_and_then (step_to (full_at kept.base) kept.current) edit

-- an edit is made, and answered with the version after it, or refused, and then nothing changes
abbrev pub IsEdit : Kept → Kept → Result Edit Refusal → Result ℕ Refusal → Type 0
IsEdit old new edit answer =
    MatchResult answer
    (λ version. (after old edit ≡ Ok new.current) × (new ≡ record old { current = new.current }) × (version ≡ new.current.version))
    (λ refusal. ((refusal ≡ NoMemory) ⊎ (after old edit ≡ Err refusal)) × (new ≡ old))

-- the objects as they are become the next publication, or it is refused, and then nothing changes
abbrev pub IsPublication : Kept → Kept → Result Published Refusal → Type 0
IsPublication old new answer =
    MatchResult answer
    (λ p. (old.number < MOST_PUBLICATIONS) × (new ≡ record old { published = old.current; number = old.number + 1 }) × (p.number ≡ old.number + 1) × (p.version ≡ old.current.version))
    (λ refusal. ((refusal ≡ NoMemory) ⊎ ((refusal ≡ Full) × (MOST_PUBLICATIONS ≤ old.number))) × (new ≡ old))

-- edits are counted from the last publication on, or there is no memory for it, and then nothing changes
abbrev pub IsCondensed : Kept → Kept → Result ℕ Refusal → Type 0
IsCondensed old new answer =
    MatchResult answer
    (λ version. (new ≡ record old { base = old.published.version }) × (version ≡ old.published.version))
    (λ refusal. (refusal ≡ NoMemory) × (new ≡ old))
