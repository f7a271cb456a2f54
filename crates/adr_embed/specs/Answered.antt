-- What a line is answered, or why it is refused.
use Rattle.std.specs.Prelude.{ℕ, ◌+◌, nat_lt, List, Option, Some, None, Result, Ok, Err, if◌then◌else◌}
use Rattle.adr_value.specs.declared.limits.TheConstants.{MOST_PUBLICATIONS}
use Rattle.adr_refusal.specs.Answer.{result_map, result_and_then}
use Rattle.adr_refusal.specs.declared.refusal.Refusal.{Refusal}
use Rattle.adr_refusal.specs.declared.refusal.Refusal.TheVariants.{BadLine, Full}
use Rattle.adr_model.specs.declared.entry.Tie.{Tie}
use Rattle.adr_model.specs.Book.{Book}
use Rattle.adr_model.specs.Edits.{full_at, step_to}
use Rattle.adr_model.specs.Kept.{Kept}
use Rattle.adr_model.specs.Queries.{Query, answer}
use Rattle.adr_resolver.specs.declared.command.Command.{Command}
use Rattle.adr_resolver.specs.declared.command.Command.TheVariants.{Edit, Publish, Condense}
use Rattle.adr_resolver.specs.Line.{line_named}
use Rattle.adr_resolver.specs.Text.{ok_line, published_line, condensed_line, query_of}

-- a query is answered from the book; what is none is no line for a reader
abbrev pub query_answer : Tie → Book → Option Query → Result (List ℕ) Refusal
query_answer tie book None = Err BadLine
query_answer tie book (Some query) = answer tie book query

abbrev pub publish_answer : Kept → Result (List ℕ) Refusal
publish_answer k = if nat_lt k.number MOST_PUBLICATIONS then Ok (published_line (k.number + 1) k.current.version) else Err Full

-- the answer to a command of an editor
abbrev pub command_answer : Kept → Command → Result (List ℕ) Refusal
command_answer k (Edit x) = result_map (λ book. ok_line book.version) (step_to (full_at k.base) k.current x)
command_answer k Publish = publish_answer k
command_answer k Condense = Ok (condensed_line k.published.version)
command_answer k query = query_answer k.tie k.published (query_of query)

-- the answer to a line of an editor
abbrev pub line_answer : Kept → List ℕ → Result (List ℕ) Refusal
line_answer k line = result_and_then (command_answer k) (line_named line)

-- the answer to a line of a reader
abbrev pub asked_answer : Tie → Book → List ℕ → Result (List ℕ) Refusal
asked_answer tie book line = result_and_then (λ command. query_answer tie book (query_of command)) (line_named line)
