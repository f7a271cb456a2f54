-- What `fan` may write: an editor answers edits and publications in order and sends each query on to every reader,
-- and behind the editor's replies stand those of the readers, one reader after the other.
use Rattle.std.specs.Prelude.{◌≡◌, ◌⊎◌, ◌≤◌, ℕ, zero, suc, ◌+◌, Bool, List, [], ◌∷◌, ◌++◌, length, nat_lt, codes, Option, Some, None, if◌then◌else◌}
use Rattle.std.specs.Fmt.{decimal}
use Rattle.adr_refusal.specs.declared.refusal.Refusal.TheVariants.{Full}
use Rattle.adr_model.specs.declared.entry.Tie.{Tie}
use Rattle.adr_model.specs.Machine.{State, book_of, last_number}
use Rattle.adr_model.specs.Queries.{Query, answer}
use Rattle.adr_script.specs.Lines.{all_lines}
use Rattle.adr_script.specs.Script.{no_memory}
use Rattle.adr_script.specs.Text.{text_but, state_but}
use Rattle.adr_resolver.specs.declared.command.Command.{Command}
use Rattle.adr_resolver.specs.Line.{line_named}
use Rattle.adr_resolver.specs.Reached.{state_after}
use Rattle.adr_resolver.specs.Text.{answer_line, refusal_line, command_reply, command_next, query_of, reply_or, next_or, script_start}

-- a query that was sent, and the number of the publication that was the last one then
pub record Sent : Type 0 where
  pub query : Query
  pub number : ℕ

-- the editor's machine, and the queries that it has sent
pub record Fan : Type 0 where
  pub machine : State
  pub sent : List Sent

abbrev pub fan_start : Tie → Fan
fan_start tie = record { machine = script_start tie; sent = [] }

abbrev pub most_queries : ℕ
most_queries = 65536

-- what the editor replies to a query: nothing, as long as there is room for it
abbrev pub sent_reply : Fan → List ℕ
sent_reply fan = if nat_lt (length fan.sent) most_queries then [] else refusal_line Full

-- the query is sent
abbrev pub with_query : Fan → Query → Fan
with_query fan query =
    if nat_lt (length fan.sent) most_queries
    then record fan { sent = fan.sent ++ (record { query = query; number = last_number fan.machine }) ∷ [] }
    else fan

-- what it replies to a command, and what it is after it: a query goes to the readers, and all else is answered in its
-- place
abbrev pub editor_reply_to : Fan → Command → Option Query → List ℕ
editor_reply_to fan command None = command_reply fan.machine command
editor_reply_to fan command (Some query) = sent_reply fan

abbrev pub editor_next_to : Fan → Command → Option Query → Fan
editor_next_to fan command None = record fan { machine = command_next fan.machine command }
editor_next_to fan command (Some query) = with_query fan query

abbrev pub editor_reply : Fan → Command → List ℕ
editor_reply fan command = editor_reply_to fan command (query_of command)

abbrev pub editor_next : Fan → Command → Fan
editor_next fan command = editor_next_to fan command (query_of command)

-- what the editor replies to a line, and what it is after it; a refused line changes nothing
abbrev pub fan_reply : Fan → List ℕ → List ℕ
fan_reply fan line = reply_or (editor_reply fan) (line_named line)

abbrev pub fan_next : Fan → List ℕ → Fan
fan_next fan line = next_or fan (editor_next fan) (line_named line)

-- the answer to a query from a publication
abbrev pub answer_from : State → ℕ → Query → List ℕ
answer_from s number query = answer_line (answer s.tie (book_of s number) query)

-- One reader's replies. Each is from a publication that is no older than the last one before its query, nor than the
-- one of the reply before; want of memory may stand in its place.
abbrev pub IsReaderPart : State → ℕ → List Sent → List ℕ → Type 0
IsReaderPart s seen [] out = out ≡ []
IsReaderPart s seen (q ∷ sent) out =
    (number : ℕ) × (reply : List ℕ) × (rest : List ℕ)
    × (seen ≤ number) × (q.number ≤ number) × (number ≤ last_number s)
    × ((reply ≡ answer_from s number q.query) ⊎ (reply ≡ no_memory))
    × IsReaderPart s number sent rest
    × (out ≡ reply ++ rest)

-- `reader 0`
abbrev pub reader_line : ℕ → List ℕ
reader_line reader = codes "reader " ++ decimal reader ++ codes "\n"

-- the parts of so many readers, from that one on
abbrev pub AreReaderParts : State → List Sent → ℕ → ℕ → List ℕ → Type 0
AreReaderParts s sent reader zero out = out ≡ []
AreReaderParts s sent reader (suc count) out =
    (part : List ℕ) × (rest : List ℕ)
    × IsReaderPart s 0 sent part
    × AreReaderParts s sent (reader + 1) count rest
    × (out ≡ reader_line reader ++ part ++ rest)

-- what `fan` with so many readers may write of these lines; the editor's lines that a mark stands for are refused for
-- want of memory
abbrev pub IsFannedOf : Tie → List (List ℕ) → ℕ → List ℕ → Type 0
IsFannedOf tie lines readers out =
    (marks : List Bool) × (parts : List ℕ)
    × AreReaderParts (state_but fan_next marks (fan_start tie) lines).machine (state_but fan_next marks (fan_start tie) lines).sent 0 readers parts
    × (out ≡ text_but fan_reply fan_next marks (fan_start tie) lines ++ parts)

-- and of these bytes
abbrev pub IsFanned : Tie → List ℕ → ℕ → List ℕ → Type 0
IsFanned tie bytes readers out = IsFannedOf tie (all_lines bytes) readers out

-- ---- its laws

-- the editor's edits and publications are those of a script without readers
abbrev pub FanRunsTheScript : Type 0
FanRunsTheScript = (fan : Fan) (line : List ℕ) → (fan_next fan line).machine ≡ next_or fan.machine (command_next fan.machine) (line_named line)

-- and after any lines, of which any may be refused for want of memory, its state is what such a script leaves
abbrev pub FanLeavesTheState : Type 0
FanLeavesTheState =
    (tie : Tie) (marks : List Bool) (lines : List (List ℕ)) → (state_but fan_next marks (fan_start tie) lines).machine ≡ state_after tie marks lines

-- one reader's replies where it answers all from the last publication
abbrev pub part_from_last : State → List Sent → List ℕ
part_from_last s [] = []
part_from_last s (q ∷ sent) = answer_from s (last_number s) q.query ++ part_from_last s sent

abbrev pub parts_from_last : State → List Sent → ℕ → ℕ → List ℕ
parts_from_last s sent reader zero = []
parts_from_last s sent reader (suc count) = reader_line reader ++ part_from_last s sent ++ parts_from_last s sent (reader + 1) count

abbrev pub parts_after : Fan → ℕ → List ℕ
parts_after fan readers = parts_from_last fan.machine fan.sent 0 readers

-- readers that answer all queries at the end, from the last publication, do what they may
abbrev pub ReadersMayAnswerAtTheEnd : Type 0
ReadersMayAnswerAtTheEnd =
    (tie : Tie) (lines : List (List ℕ)) (readers : ℕ)
    → IsFannedOf tie lines readers (text_but fan_reply fan_next [] (fan_start tie) lines ++ parts_after (state_but fan_next [] (fan_start tie) lines) readers)
