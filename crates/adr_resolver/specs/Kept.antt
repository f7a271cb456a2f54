-- The machine of the script, seen by what the plain machine keeps: the objects, and not the batches that left them.
use Rattle.std.specs.Prelude.{◌≡◌, ℕ, ◌+◌, nat_lt, List, [], length, Option, Some, None, Result, Ok, Err, if◌then◌else◌}
use Rattle.adr_value.specs.declared.limits.TheConstants.{MOST_PUBLICATIONS}
use Rattle.adr_refusal.specs.declared.refusal.Refusal.{Refusal}
use Rattle.adr_refusal.specs.declared.refusal.Refusal.TheVariants.{Full}
use Rattle.adr_model.specs.declared.entry.Tie.{Tie}
use Rattle.adr_model.specs.Book.{Book}
use Rattle.adr_model.specs.Edits.{full_at, step_to}
use Rattle.adr_model.specs.Machine.{State, last_book}
use Rattle.adr_model.specs.Queries.{Query, answer}
use Rattle.adr_model.specs.Kept.{Kept, kept_start}
use Rattle.adr_resolver.specs.declared.command.Command.{Command}
use Rattle.adr_resolver.specs.declared.command.Command.TheVariants.{Edit, Publish, Condense}
use Rattle.adr_resolver.specs.Line.{line_named}
use Rattle.adr_resolver.specs.Text.{ok_line, published_line, condensed_line, refusal_line, answer_line, command_reply, command_next, query_of, reply_or, next_or, script_reply, script_next, script_start}

abbrev pub edit_reply : Result Book Refusal → List ℕ
edit_reply (Ok book) = ok_line book.version
edit_reply (Err f) = refusal_line f

abbrev pub edit_next : Kept → Result Book Refusal → Kept
edit_next k (Ok book) = record k { current = book }
edit_next k (Err f) = k

abbrev pub publish_reply : Kept → List ℕ
publish_reply k = if nat_lt k.number MOST_PUBLICATIONS then published_line (k.number + 1) k.current.version else refusal_line Full

abbrev pub publish_next : Kept → Kept
publish_next k =
    if nat_lt k.number MOST_PUBLICATIONS
    then record k { published = k.current; number = k.number + 1 }
    else k

abbrev pub asked_reply : Kept → Option Query → List ℕ
asked_reply k None = []
asked_reply k (Some query) = answer_line (answer k.tie k.published query)

abbrev pub kept_command_reply : Kept → Command → List ℕ
kept_command_reply k (Edit x) = edit_reply (step_to (full_at k.base) k.current x)
kept_command_reply k Publish = publish_reply k
kept_command_reply k Condense = condensed_line k.published.version
kept_command_reply k query = asked_reply k (query_of query)

abbrev pub kept_command_next : Kept → Command → Kept
kept_command_next k (Edit x) = edit_next k (step_to (full_at k.base) k.current x)
kept_command_next k Publish = publish_next k
kept_command_next k Condense = record k { base = k.published.version }
kept_command_next k query = k

abbrev pub kept_reply : Kept → List ℕ → List ℕ
kept_reply k line = reply_or (kept_command_reply k) (line_named line)

abbrev pub kept_next : Kept → List ℕ → Kept
kept_next k line = next_or k (kept_command_next k) (line_named line)

-- what is kept is what the state has
pub record IsKept (k : Kept) (s : State) : Type 0 where
  pub tie : k.tie ≡ s.tie
  pub base : k.base ≡ s.base
  pub current : k.current ≡ s.current
  pub published : k.published ≡ last_book s
  pub number : k.number + 1 ≡ length s.published

-- at the start it is
abbrev pub KeptBeginsInStep : Type 0
KeptBeginsInStep = (tie : Tie) → IsKept (kept_start tie) (script_start tie)

-- it replies to a command as the script does, and is what the state after it has
abbrev pub CommandsKeepStep : Type 0
CommandsKeepStep =
    (k : Kept) (s : State) (command : Command) → IsKept k s
    → (kept_command_reply k command ≡ command_reply s command) × IsKept (kept_command_next k command) (command_next s command)

-- and so to a line
abbrev pub LinesKeepStep : Type 0
LinesKeepStep =
    (k : Kept) (s : State) (line : List ℕ) → IsKept k s
    → (kept_reply k line ≡ script_reply s line) × IsKept (kept_next k line) (script_next s line)
