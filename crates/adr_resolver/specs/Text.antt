-- What a script is answered: the machine of edits and publications, run over its lines.
use Rattle.std.specs.Prelude.{ℕ, List, [], ◌++◌, codes, Option, Some, None, Result, Ok, Err}
use Rattle.std.specs.Fmt.{decimal}
use Rattle.adr_value.specs.Limits.{Limits, limits}
use Rattle.adr_refusal.specs.Refusal.{number_of, name_of}
use Rattle.adr_refusal.specs.declared.refusal.Refusal.{Refusal}
use Rattle.adr_model.specs.declared.entry.Tie.{Tie}
use Rattle.adr_model.specs.Edits.{full_at, step_by}
use Rattle.adr_model.specs.Machine.{State, Reply, refused, done, published, condensed, told, seen, start, after_edit, after_publish, after_condense, last_book}
use Rattle.adr_model.specs.Queries.{Query, answer, at_query, list_query, roll_query, types_query}
use Rattle.adr_resolver.specs.declared.command.Command.{Command}
use Rattle.adr_resolver.specs.declared.command.Command.TheVariants.{Edit, Publish, Condense, At, List as Listed, Roll, Types}
use Rattle.adr_resolver.specs.Line.{line_named_by}

-- `refused 22 Exists`, with a line feed
abbrev pub refusal_line : Refusal → List ℕ
refusal_line f = codes "refused " ++ decimal (number_of f) ++ codes " " ++ name_of f ++ codes "\n"

-- `ok 4`
abbrev pub ok_line : ℕ → List ℕ
ok_line version = codes "ok " ++ decimal version ++ codes "\n"

-- `published 1 version 4`
abbrev pub published_line : ℕ → ℕ → List ℕ
published_line number version = codes "published " ++ decimal number ++ codes " version " ++ decimal version ++ codes "\n"

-- `condensed version 4`
abbrev pub condensed_line : ℕ → List ℕ
condensed_line version = codes "condensed version " ++ decimal version ++ codes "\n"

-- the line that a reply of the machine is; a script has no readers that are told or look
abbrev pub reply_line : Reply → List ℕ
reply_line (refused f) = refusal_line f
reply_line (done version) = ok_line version
reply_line (published number version) = published_line number version
reply_line (condensed version) = condensed_line version
reply_line told = []
reply_line (seen number) = []

abbrev pub answer_line : Result (List ℕ) Refusal → List ℕ
answer_line (Ok bytes) = bytes
answer_line (Err f) = refusal_line f

-- what a command asks, if it asks
abbrev pub query_of : Command → Option Query
query_of (Edit x) = None
query_of Publish = None
query_of Condense = None
query_of (At id payload_type moment) = Some (at_query id payload_type moment)
query_of (Listed id payload_type from to) = Some (list_query id payload_type from to)
query_of (Roll payload_type moment) = Some (roll_query payload_type moment)
query_of (Types id) = Some (types_query id)

-- a query is answered from the book that was published last
abbrev pub query_reply : State → Option Query → List ℕ
query_reply s None = []
query_reply s (Some query) = answer_line (answer s.tie (last_book s) query)

-- the reply to a command under limits, and the state after it
abbrev pub command_reply_by : Limits → State → Command → List ℕ
command_reply_by l s (Edit x) = reply_line (after_edit s x (step_by l (full_at s.base) s.current x)).0
command_reply_by l s Publish = reply_line (after_publish s).0
command_reply_by l s Condense = reply_line (after_condense s).0
command_reply_by l s query = query_reply s (query_of query)

abbrev pub command_next_by : Limits → State → Command → State
command_next_by l s (Edit x) = (after_edit s x (step_by l (full_at s.base) s.current x)).1
command_next_by l s Publish = (after_publish s).1
command_next_by l s Condense = (after_condense s).1
command_next_by l s query = s

-- a refused line changes nothing
abbrev pub reply_or : (Command → List ℕ) → Result Command Refusal → List ℕ
reply_or reply (Ok command) = reply command
reply_or reply (Err f) = refusal_line f

abbrev pub next_or : {S : Type 0} → S → (Command → S) → Result Command Refusal → S
next_or s next (Ok command) = next command
next_or s next (Err f) = s

-- the reply to a line under limits, and the state after it
abbrev pub script_reply_by : Limits → State → List ℕ → List ℕ
script_reply_by l s line = reply_or (command_reply_by l s) (line_named_by l line)

abbrev pub script_next_by : Limits → State → List ℕ → State
script_next_by l s line = next_or s (command_next_by l s) (line_named_by l line)

-- under the limits in force
abbrev pub command_reply : State → Command → List ℕ
command_reply s command = command_reply_by limits s command

abbrev pub command_next : State → Command → State
command_next s command = command_next_by limits s command

abbrev pub script_reply : State → List ℕ → List ℕ
script_reply s line = script_reply_by limits s line

abbrev pub script_next : State → List ℕ → State
script_next s line = script_next_by limits s line

-- before the first line: no edits, and the empty book as publication 0
abbrev pub script_start : Tie → State
script_start tie = start tie 0
