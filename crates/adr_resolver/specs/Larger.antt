-- Larger limits tell the same, as long as no line meets the lesser ones.
use Rattle.std.specs.Prelude.{◌≡◌, ◌≢◌, ℕ, ⊤, nat_lt, length, List, [], ◌∷◌, Option, Some, None, Result, Ok, Err, if◌then◌else◌}
use Rattle.std.specs.Io.BufRead.{strip_last}
use Rattle.std.specs.Option.{option_and_then}
use Rattle.std.specs.Result.{result_err}
use Rattle.adr_value.specs.Limits.{Limits, AreWithin, first_limits, limits}
use Rattle.adr_value.specs.declared.limits.TheConstants.{MOST_PUBLICATIONS}
use Rattle.adr_refusal.specs.declared.refusal.Refusal.{Refusal}
use Rattle.adr_refusal.specs.declared.refusal.Refusal.TheVariants.{LongLine, TooMany, Full}
use Rattle.adr_model.specs.declared.entry.Tie.{Tie}
use Rattle.adr_model.specs.Edits.{full_at, step_by}
use Rattle.adr_model.specs.Machine.{State, last_book, last_number}
use Rattle.adr_model.specs.Queries.{answer}
use Rattle.adr_script.specs.Lines.{all_lines}
use Rattle.adr_script.specs.Text.{after_line, text}
use Rattle.adr_resolver.specs.declared.command.Command.{Command}
use Rattle.adr_resolver.specs.declared.command.Command.TheVariants.{Edit, Publish, Condense}
use Rattle.adr_resolver.specs.Line.{line_named_by}
use Rattle.adr_resolver.specs.Text.{query_of, script_reply_by, script_next_by, script_start}

-- what a command is refused with under limits, if it is
abbrev pub command_refusal_by : Limits → State → Command → Option Refusal
command_refusal_by l s (Edit x) = result_err (step_by l (full_at s.base) s.current x)
command_refusal_by l s Publish = if nat_lt (last_number s) MOST_PUBLICATIONS then None else Some Full
command_refusal_by l s Condense = None
command_refusal_by l s query = option_and_then (λ q. result_err (answer s.tie (last_book s) q)) (query_of query)

abbrev pub named_refusal_by : Limits → State → Result Command Refusal → Option Refusal
named_refusal_by l s (Ok command) = command_refusal_by l s command
named_refusal_by l s (Err f) = Some f

-- and a line
abbrev pub line_refusal_by : Limits → State → List ℕ → Option Refusal
line_refusal_by l s line =
    if nat_lt 4194304 (length line) then Some LongLine else named_refusal_by l s (line_named_by l (strip_last 13 line))

-- not for a list above its limit, nor for a book that is full
abbrev pub MeetsNoLimit : Option Refusal → Type 0
MeetsNoLimit None = ⊤
MeetsNoLimit (Some f) = (f ≢ TooMany) × (f ≢ Full)

-- no line of the script is answered `refused 18 TooMany` or `refused 27 Full`
abbrev pub NoneMeetsALimit : Limits → State → List (List ℕ) → Type 0
NoneMeetsALimit l s [] = ⊤
NoneMeetsALimit l s (line ∷ lines) = MeetsNoLimit (line_refusal_by l s line) × NoneMeetsALimit l (after_line (script_next_by l) s line) lines

-- then the text is the same under limits of which none is lesser
abbrev pub LargerLimitsTellTheSame : Type 0
LargerLimitsTellTheSame =
    (a b : Limits) → AreWithin a b → (tie : Tie) (bytes : List ℕ) → NoneMeetsALimit a (script_start tie) (all_lines bytes)
    → text (script_reply_by a) (script_next_by a) (script_start tie) (all_lines bytes)
    ≡ text (script_reply_by b) (script_next_by b) (script_start tie) (all_lines bytes)

-- as those in force are beside the first ones
abbrev pub LimitsGrew : Type 0
LimitsGrew = AreWithin first_limits limits
