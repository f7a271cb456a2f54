-- What callers of an editor and its readers can rely on.
use Rattle.std.specs.Prelude.{◌≡◌, ◌⊎◌, ◌+◌, ℕ, ℤ, List, Some, Result, Ok, Err}
use Rattle.adr_refusal.specs.Answer.{result_map}
use Rattle.adr_refusal.specs.declared.refusal.Refusal.{Refusal}
use Rattle.adr_refusal.specs.declared.refusal.Refusal.TheVariants.{NoMemory}
use Rattle.adr_value.specs.declared.payload.PayloadType.{PayloadType}
use Rattle.adr_object.specs.declared.object.Edit.{Edit as Change}
use Rattle.adr_model.specs.declared.entry.Tie.{Tie}
use Rattle.adr_model.specs.declared.published.Published.{Published}
use Rattle.adr_model.specs.Answer.{IsUntil}
use Rattle.adr_model.specs.Book.{Book}
use Rattle.adr_model.specs.Governor.{governs}
use Rattle.adr_model.specs.Kept.{Kept, kept_start}
use Rattle.adr_model.specs.Machine.{State}
use Rattle.adr_model.specs.Queries.{Query}
use Rattle.adr_repair.specs.Ranks.{IsGovernor}
use Rattle.adr_calendar.specs.declared.calendar.State.{State as Governed}
use Rattle.adr_calendar.specs.Governed.{state_at}
use Rattle.adr_resolver.specs.declared.command.Command.{Command}
use Rattle.adr_resolver.specs.declared.command.Command.TheVariants.{Edit, Publish, Condense}
use Rattle.adr_resolver.specs.Kept.{kept_command_next, kept_next, IsKept}
use Rattle.adr_resolver.specs.Line.{line_named}
use Rattle.adr_resolver.specs.Text.{answer_line, command_next, command_reply, condensed_line, ok_line, published_line, query_of, script_next, script_reply, script_start}
use Rattle.adr_embed.specs.Answered.{asked_answer, line_answer}
use Rattle.adr_embed.specs.Steps.{IsCondensed, IsEdit, IsPublication}

-- what was published last stays so, or is published anew under the next number
abbrev pub GoesOn : Kept → Kept → Type 0
GoesOn old new =
    ((new.number ≡ old.number) × (new.published ≡ old.published))
    ⊎ ((new.number ≡ old.number + 1) × (new.published ≡ old.current))

-- no command takes a publication back
abbrev pub PublicationsGoOn : Type 0
PublicationsGoOn = (kept : Kept) (command : Command) → GoesOn kept (kept_command_next kept command)

-- a new editor is in step with a script that begins
abbrev pub EditorsBeginInStep : Type 0
EditorsBeginInStep = (tie : Tie) → IsKept (kept_start tie) (script_start tie)

-- an editor in step with a script answers a line as the script replies, `refused NUMBER NAME` where it is refused, and stays in step
abbrev pub LinesAreReplied : Type 0
LinesAreReplied =
    (k : Kept) (s : State) (line : List ℕ) → IsKept k s
    → (answer_line (line_answer k line) ≡ script_reply s line) × IsKept (kept_next k line) (script_next s line)

-- a call answers what a script replies to the command, and leaves what the script then has; or memory is wanting, and nothing changes
abbrev pub DoesCommand : Kept → Kept → State → Command → Result (List ℕ) Refusal → Type 0
DoesCommand old new s command answer =
    ((answer ≡ Err NoMemory) × (new ≡ old))
    ⊎ ((answer_line answer ≡ command_reply s command) × IsKept new (command_next s command))

-- of an editor in step with a script the typed edits do what the script's edits do
abbrev pub EditsAreCommands : Type 0
EditsAreCommands =
    (old new : Kept) (s : State) (x : Change) (answer : Result ℕ Refusal) → IsKept old s
    → IsEdit old new (Ok x) answer → DoesCommand old new s (Edit x) (result_map ok_line answer)

-- and so do its publications
abbrev pub PublicationsAreCommands : Type 0
PublicationsAreCommands =
    (old new : Kept) (s : State) (answer : Result Published Refusal) → IsKept old s
    → IsPublication old new answer → DoesCommand old new s Publish (result_map (λ p. published_line p.number p.version) answer)

abbrev pub CondensesAreCommands : Type 0
CondensesAreCommands =
    (old new : Kept) (s : State) (answer : Result ℕ Refusal) → IsKept old s
    → IsCondensed old new answer → DoesCommand old new s Condense (result_map condensed_line answer)

-- a reader of its last publication answers a query as the script replies
abbrev pub QueriesAreReplied : Type 0
QueriesAreReplied =
    (k : Kept) (s : State) (line : List ℕ) (command : Command) (query : Query) → IsKept k s
    → line_named line ≡ Ok command → query_of command ≡ Some query
    → answer_line (asked_answer k.tie k.published line) ≡ script_reply s line

-- what a typed query tells of a publication is the least matching interval, and the next instant at which another one governs, or none
abbrev pub GovernorsAreLeast : Type 0
GovernorsAreLeast =
    (tie : Tie) (book : Book) (id : List ℕ) (payload_type : PayloadType) (t : ℤ) (told : Governed)
    → state_at tie book id payload_type t ≡ Ok told
    → IsGovernor tie book id payload_type t told.governor × IsUntil (λ u. governs tie book id payload_type u) t told.until
