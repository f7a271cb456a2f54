-- What the lines of a script leave: which state, and which accepted edits.
use Rattle.std.specs.Prelude.{◌≡◌, ℕ, ◌≤◌, nat_lt, Bool, true, false, List, [], ◌∷◌, ◌++◌, length, take, is_ok, if◌then◌else◌}
use Rattle.std.specs.Io.BufRead.{strip_last}
use Rattle.adr_object.specs.declared.object.Edit.{Edit as Change}
use Rattle.adr_model.specs.declared.entry.Tie.{Tie}
use Rattle.adr_model.specs.Edits.{after, full_at, step_to}
use Rattle.adr_model.specs.Laws.{all_edits}
use Rattle.adr_model.specs.Machine.{State, Action, edit, publish, condense, book_of, last_book, last_number}
use Rattle.adr_script.specs.Text.{state_but}
use Rattle.adr_resolver.specs.declared.command.Command.{Command}
use Rattle.adr_resolver.specs.declared.command.Command.TheVariants.{Edit, Publish, Condense}
use Rattle.adr_resolver.specs.Line.{line_named}
use Rattle.adr_resolver.specs.Text.{command_next, next_or, script_next, script_start}

-- the state after these lines, where those that a mark stands for were refused for want of memory
abbrev pub state_after : Tie → List Bool → List (List ℕ) → State
state_after tie marks lines = state_but script_next marks (script_start tie) lines

-- the command that a line is, where it is not refused
abbrev pub command_on : List ℕ → List Command
command_on line = if nat_lt 4194304 (length line) then [] else next_or [] (λ command. command ∷ []) (line_named (strip_last 13 line))

-- the commands of the lines that no mark stands for, in order
abbrev pub commands_on : List Bool → List (List ℕ) → List Command
commands_on marks [] = []
commands_on [] (line ∷ lines) = command_on line ++ commands_on [] lines
commands_on (true ∷ marks) (line ∷ lines) = commands_on marks lines
commands_on (false ∷ marks) (line ∷ lines) = command_on line ++ commands_on marks lines

-- what a command asks of the machine of edits and publications: a query asks nothing of it
abbrev pub actions_of : Command → List Action
actions_of (Edit x) = edit x ∷ []
actions_of Publish = publish ∷ []
actions_of Condense = condense ∷ []
actions_of query = []

-- the edit that a command makes, where it is accepted
abbrev pub accepted_on : State → Command → List Change
accepted_on s (Edit x) = if is_ok (step_to (full_at s.base) s.current x) then x ∷ [] else []
accepted_on s command = []

-- the accepted edits of commands, in order
abbrev pub accepted_from : State → List Command → List Change
accepted_from s [] = []
accepted_from s (command ∷ commands) = accepted_on s command ++ accepted_from (command_next s command) commands

-- and of lines
abbrev pub accepted_edits : Tie → List Bool → List (List ℕ) → List Change
accepted_edits tie marks lines = accepted_from (script_start tie) (commands_on marks lines)

-- those up to the version of the last publication
abbrev pub published_edits : Tie → List Bool → List (List ℕ) → List Change
published_edits tie marks lines = take (last_book (state_after tie marks lines)).version (accepted_edits tie marks lines)

-- The edits left the state: the objects as they stand are what all of them make of the empty book, those of a
-- publication what the edits up to its version make of it; and the batches, with the open one behind them, are the edits.
pub record IsLeftBy (edits : List Change) (s : State) : Type 0 where
  pub current : s.current ≡ after edits
  pub published : (number : ℕ) → number ≤ last_number s → book_of s number ≡ after (take (book_of s number).version edits)
  pub batches : all_edits s ≡ edits
