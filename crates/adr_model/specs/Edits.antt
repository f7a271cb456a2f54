-- What an edit does to the book, and which refusal it meets.
use Rattle.std.specs.Prelude.{ℕ, ◌+◌, min, nat_lt, nat_le, Bool, true, false, not, ◌||◌, List, [], ◌∷◌, ◌++◌, map, filter, fold, length, is_some, Result, if◌then◌else◌, sum_by}
use Rattle.std.specs.List.{list_any}
use Rattle.std.specs.Str.{bytes_eq}
use Rattle.std.specs.Result.{result_unwrap_or, result_err}
use Rattle.std.specs.Option.{option_map_or}
use Rattle.adr_refusal.specs.Faults.{judged}
use Rattle.adr_value.specs.Limits.{Limits, limits}
use Rattle.adr_value.specs.Same.{same_type}
use Rattle.adr_value.specs.declared.limits.TheConstants.{MOST_EDITS, MOST_VERSION}
use Rattle.adr_refusal.specs.declared.refusal.Refusal.{Refusal}
use Rattle.adr_refusal.specs.declared.refusal.Refusal.TheVariants.{Exists, NotThere, NoProgram, NoVen, InUse, Full}
use Rattle.adr_object.specs.declared.event.Event.{Event}
use Rattle.adr_object.specs.declared.event.Payload.{Payload}
use Rattle.adr_object.specs.declared.object.Object.{Object}
use Rattle.adr_object.specs.declared.object.Object.TheVariants.{Program as program, Event as event, Ven as ven, Resource as resource}
use Rattle.adr_object.specs.declared.object.Kind.{Kind}
use Rattle.adr_object.specs.declared.object.Kind.TheVariants.{Program as program_kind, Event as event_kind, Ven as ven_kind, Resource as resource_kind}
use Rattle.adr_object.specs.declared.object.Edit.{Edit}
use Rattle.adr_object.specs.declared.object.Edit.TheVariants.{Create, Change, Remove}
use Rattle.adr_object.specs.Object.{kind_of, id_of}
use Rattle.adr_model.specs.Layout.{layout}
use Rattle.adr_model.specs.Book.{Book, empty, program_by, ven_by, resource_by, event_by}

-- ---- the limits

abbrev pub most_objects_by : Limits → Kind → ℕ
most_objects_by l program_kind = l.programs
most_objects_by l event_kind = l.events
most_objects_by l ven_kind = l.vens
most_objects_by l resource_kind = l.resources

-- the version at which a book whose journal starts from a base of that version is full
abbrev pub full_at : ℕ → ℕ
full_at base = min (base + MOST_EDITS) MOST_VERSION

-- ---- what the book has

abbrev pub count_of : Book → Kind → ℕ
count_of book program_kind = length book.programs
count_of book event_kind = length book.events
count_of book ven_kind = length book.vens
count_of book resource_kind = length book.resources

abbrev pub has_id : Book → Kind → List ℕ → Bool
has_id book program_kind id = is_some (program_by book id)
has_id book event_kind id = is_some (event_by book id)
has_id book ven_kind id = is_some (ven_by book id)
has_id book resource_kind id = is_some (resource_by book id)

-- how many payload types the list has, each counted once
abbrev pub distinct_types : List Payload → ℕ
distinct_types [] = 0
distinct_types (p ∷ ps) = if list_any (λ q. same_type q.kind p.kind) ps then distinct_types ps else (distinct_types ps + 1)

-- the entries of an event: its intervals, each with each of its payload types
abbrev pub entry_count : Event → ℕ
entry_count e = sum_by (λ i. distinct_types i.payloads) e.intervals

-- the entries of the book, without those of the event with that id
abbrev pub entries_beside : Book → List ℕ → ℕ
entries_beside book id = sum_by (λ w. entry_count w.event) (filter (λ w. not (bytes_eq id w.event.id)) book.events)

-- ---- the faults of an edit

abbrev pub fault_if : Bool → Refusal → List Refusal
fault_if true fault = fault ∷ []
fault_if false fault = []

-- the layout of a written event
abbrev pub layout_faults : Object → List Refusal
layout_faults (event e) = option_map_or (λ fault. fault ∷ []) (result_err (layout e)) []
layout_faults _ = []

-- what a written object names
abbrev pub reference_faults : Book → Object → List Refusal
reference_faults book (event e) = fault_if (not (is_some (program_by book e.program_id))) NoProgram
reference_faults book (resource r) = fault_if (not (is_some (ven_by book r.ven_id))) NoVen
reference_faults book _ = []

-- what names a removed object
abbrev pub is_named : Book → Kind → List ℕ → Bool
is_named book program_kind id = list_any (λ w. bytes_eq id w.event.program_id) book.events
is_named book ven_kind id = list_any (λ r. bytes_eq id r.ven_id) book.resources
is_named book _ id = false

-- the event would bring the book above its entries
abbrev pub has_too_many_entries_by : Limits → Book → Object → Bool
has_too_many_entries_by l book (event e) = nat_lt l.entries (entries_beside book e.id + entry_count e)
has_too_many_entries_by l book _ = false

abbrev pub is_full_for_by : Limits → Book → Edit → Bool
is_full_for_by l book (Create o) =
    nat_le (most_objects_by l (kind_of o)) (count_of book (kind_of o)) || has_too_many_entries_by l book o
is_full_for_by l book (Change o) = has_too_many_entries_by l book o
is_full_for_by l book (Remove kind id) = false

-- under limits, where the book is full at a version
abbrev pub faults_by : Limits → ℕ → Book → Edit → List Refusal
faults_by l full book (Create o) =
    layout_faults o
    ++ fault_if (has_id book (kind_of o) (id_of o)) Exists
    ++ reference_faults book o
    ++ fault_if (nat_le full book.version || is_full_for_by l book (Create o)) Full
faults_by l full book (Change o) =
    layout_faults o
    ++ fault_if (not (has_id book (kind_of o) (id_of o))) NotThere
    ++ reference_faults book o
    ++ fault_if (nat_le full book.version || is_full_for_by l book (Change o)) Full
faults_by l full book (Remove kind id) =
    fault_if (not (has_id book kind id)) NotThere
    ++ fault_if (is_named book kind id) InUse
    ++ fault_if (nat_le full book.version) Full

-- under the limits in force
abbrev pub most_objects : Kind → ℕ
most_objects kind = most_objects_by limits kind

abbrev pub has_too_many_entries : Book → Object → Bool
has_too_many_entries book o = has_too_many_entries_by limits book o

abbrev pub is_full_for : Book → Edit → Bool
is_full_for book edit = is_full_for_by limits book edit

abbrev pub faults_to : ℕ → Book → Edit → List Refusal
faults_to full book edit = faults_by limits full book edit

-- ---- the book after the edit

-- the list with x in the place of the elements of which the test holds
abbrev pub put_at : {X : Type 0} → (X → Bool) → X → List X → List X
put_at test x xs = map (λ y. if test y then x else y) xs

abbrev pub created : Book → Object → Book
created book (program p) = record book { programs = book.programs ++ p ∷ [] }
created book (ven v) = record book { vens = book.vens ++ v ∷ [] }
created book (resource r) = record book { resources = book.resources ++ r ∷ [] }
created book (event e) = record book { events = book.events ++ record { event = e; written = book.version + 1 } ∷ [] }

abbrev pub changed : Book → Object → Book
changed book (program p) = record book { programs = put_at (λ q. bytes_eq p.id q.id) p book.programs }
changed book (ven v) = record book { vens = put_at (λ q. bytes_eq v.id q.id) v book.vens }
changed book (resource r) = record book { resources = put_at (λ q. bytes_eq r.id q.id) r book.resources }
changed book (event e) = record book { events = put_at (λ w. bytes_eq e.id w.event.id) (record { event = e; written = book.version + 1 }) book.events }

abbrev pub removed : Book → Kind → List ℕ → Book
removed book program_kind id = record book { programs = filter (λ q. not (bytes_eq id q.id)) book.programs }
removed book ven_kind id = record book { vens = filter (λ q. not (bytes_eq id q.id)) book.vens }
removed book resource_kind id = record book { resources = filter (λ q. not (bytes_eq id q.id)) book.resources }
removed book event_kind id = record book { events = filter (λ w. not (bytes_eq id w.event.id)) book.events }

abbrev pub edited : Book → Edit → Book
edited book (Create o) = created book o
edited book (Change o) = changed book o
edited book (Remove kind id) = removed book kind id

-- the book with the edit made, and the next number
abbrev pub made : Book → Edit → Book
made book edit = let after : Book = edited book edit in record after { version = book.version + 1 }

-- the least fault, or the book with the edit made
unfoldable pub step_by : Limits → ℕ → Book → Edit → Result Book Refusal
step_by l full book edit = judged (faults_by l full book edit) (made book edit)

-- under the limits in force, where the book is full at a version
abbrev pub step_to : ℕ → Book → Edit → Result Book Refusal
step_to full book edit = step_by limits full book edit

-- with no base: full at the greatest version alone
abbrev pub step : Book → Edit → Result Book Refusal
step book edit = step_to MOST_VERSION book edit

abbrev pub faults : Book → Edit → List Refusal
faults book edit = faults_to MOST_VERSION book edit

-- what the accepted ones of the edits make of a book
unfoldable pub after_from : Book → List Edit → Book
after_from book edits = fold (λ b edit. result_unwrap_or (step b edit) b) book edits

-- the book that the accepted edits leave
abbrev pub after : List Edit → Book
after edits = after_from empty edits
