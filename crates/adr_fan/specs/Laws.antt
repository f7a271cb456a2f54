-- What the replies of readers promise, in the subject's words.
use Rattle.std.specs.Prelude.{◌≡◌, ℕ, ◌+◌, ◌≤◌, Bool, List, take, Some}
use Rattle.adr_model.specs.declared.entry.Tie.{Tie}
use Rattle.adr_model.specs.Edits.{after}
use Rattle.adr_model.specs.Machine.{State, book_of, last_number}
use Rattle.adr_model.specs.Queries.{Query}
use Rattle.adr_script.specs.Text.{state_but}
use Rattle.adr_resolver.specs.declared.command.Command.{Command}
use Rattle.adr_resolver.specs.Fan.{answer_from, fan_next, fan_start}
use Rattle.adr_resolver.specs.Laws.{TellsStates, TellsTimelines}
use Rattle.adr_resolver.specs.Reached.{accepted_edits}
use Rattle.adr_resolver.specs.Text.{command_reply, query_of}

-- the editor's state after these lines, where those that a mark stands for were refused for want of memory
abbrev pub editor_after : Tie → List Bool → List (List ℕ) → State
editor_after tie marks lines = (state_but fan_next marks (fan_start tie) lines).machine

-- the state without the publications after the one of this number, which is the last then
abbrev pub as_shown : State → ℕ → State
as_shown s number = record s { published = take (number + 1) s.published }

-- A reader's reply to a query, from a publication, is what a script is told where that publication is the last.
abbrev pub ReadersReplyAsScripts : Type 0
ReadersReplyAsScripts =
    (s : State) (number : ℕ) (command : Command) (query : Query) → number ≤ last_number s → query_of command ≡ Some query
    → answer_from s number query ≡ command_reply (as_shown s number) command

-- After any lines, of which any may be refused for want of memory, this is told from each publication: timelines and states
-- of the objects that the accepted edits up to its version left of the empty book, under the rule for ties that was chosen.
abbrev pub ReadersTellTheLeastMatching : Type 0
ReadersTellTheLeastMatching =
    (tie : Tie) (marks : List Bool) (lines : List (List ℕ)) (number : ℕ) → number ≤ last_number (editor_after tie marks lines)
    → TellsTimelines (as_shown (editor_after tie marks lines) number) tie
    (after (take (book_of (editor_after tie marks lines) number).version (accepted_edits tie marks lines)))
    × TellsStates (as_shown (editor_after tie marks lines) number) tie
    (after (take (book_of (editor_after tie marks lines) number).version (accepted_edits tie marks lines)))
