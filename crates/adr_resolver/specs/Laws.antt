-- What the text of a script promises, in the subject's words.
use Rattle.std.specs.Prelude.{◌≡◌, ℕ, ℤ, ◌≤ℤ◌, ◌<ℤ◌, Bool, true, List, [], Option, Some, Ok, Err, ◌++◌, ◌∷◌, length, codes, flat_map, is_some}
use Rattle.std.specs.List.{AllByRecursion}
use Rattle.std.specs.Option.{option_and_then}
use Rattle.std.specs.Fmt.{decimal}
use Rattle.adr_value.specs.declared.payload.PayloadType.{PayloadType}
use Rattle.adr_refusal.specs.declared.refusal.Refusal.{Refusal}
use Rattle.adr_object.specs.declared.object.Edit.{Edit as Change}
use Rattle.adr_time.specs.declared.span.End.{End}
use Rattle.adr_time.specs.declared.span.End.TheVariants.{At as EndsAt}
use Rattle.adr_model.specs.declared.entry.Tie.{Tie}
use Rattle.adr_model.specs.declared.timeline.Segment.{Segment}
use Rattle.adr_model.specs.declared.timeline.Winner.{Winner}
use Rattle.adr_model.specs.Answer.{IsUntil, shown_of, state_text}
use Rattle.adr_model.specs.Book.{Book, resource_by}
use Rattle.adr_model.specs.Edits.{after, full_at, step_to}
use Rattle.adr_model.specs.Governor.{governs}
use Rattle.adr_model.specs.Laws.{Runs}
use Rattle.adr_model.specs.Machine.{State, last_book}
use Rattle.adr_model.specs.Queries.{Query, in_lines}
use Rattle.adr_model.specs.Timeline.{shows, IsCanonical}
use Rattle.adr_calendar.specs.Segments.{line_of_segment}
use Rattle.adr_repair.specs.Ranks.{IsGovernor}
use Rattle.adr_script.specs.Text.{text_but}
use Rattle.adr_resolver.specs.declared.command.Command.{Command}
use Rattle.adr_resolver.specs.declared.command.Command.TheVariants.{Edit, At, List as Listed}
use Rattle.adr_resolver.specs.Line.{line_named}
use Rattle.adr_resolver.specs.Reached.{IsLeftBy, accepted_edits, actions_of, commands_on, published_edits, state_after}
use Rattle.adr_resolver.specs.Text.{ok_line, refusal_line, command_reply, command_next, query_of, script_reply, script_next, script_start}

-- ---- what is told

-- the segment starts at the window's first instant or later, and ends at the window's end or before
abbrev pub IsInside : ℤ → ℤ → Segment → Type 0
IsInside from to s = (end : ℤ) × (from ≤ℤ s.start) × (s.end ≡ EndsAt end) × (end ≤ℤ to)

-- From the state, what `list` tells of a resource and a payload type is a timeline, segment by segment: it is canonical, all
-- of it lies inside the window, to which the first segment and the last are cut, and it shows at each instant of the window
-- the least matching interval of these objects, and none where none matches.
abbrev pub TellsTimelines : State → Tie → Book → Type 0
TellsTimelines s tie book =
    (id : List ℕ) (payload_type : PayloadType) (from to : ℤ) → from <ℤ to → is_some (resource_by book id) ≡ true
    → (timeline : List Segment)
    × IsCanonical timeline
    × AllByRecursion (IsInside from to) timeline
    × ((t : ℤ) → from ≤ℤ t → t <ℤ to → IsGovernor tie book id payload_type t (shows timeline t))
    × (command_reply s (Listed id payload_type from to) ≡ in_lines book (flat_map (line_of_segment book payload_type to) timeline))

-- and what `at` tells of an instant is the least matching interval, and the next instant at which another one governs, or none
abbrev pub TellsStates : State → Tie → Book → Type 0
TellsStates s tie book =
    (id : List ℕ) (payload_type : PayloadType) (t : ℤ) → is_some (resource_by book id) ≡ true
    → (winner : Option Winner)
    × (end : End)
    × IsGovernor tie book id payload_type t winner
    × IsUntil (λ u. governs tie book id payload_type u) t end
    × (
    command_reply s (At id payload_type t)
    ≡ codes "version " ++ decimal book.version ++ codes " "
    ++ state_text (option_and_then (shown_of book payload_type) winner) end ++ codes "\n"
    )

-- After any lines, of which any may be refused for want of memory, this is told of the objects that the accepted edits up
-- to the version of the last publication left of the empty book, under the rule for ties that was chosen.
abbrev pub LinesTellTheLeastMatching : Type 0
LinesTellTheLeastMatching =
    (tie : Tie) (marks : List Bool) (lines : List (List ℕ))
    → TellsTimelines (state_after tie marks lines) tie (after (published_edits tie marks lines))
    × TellsStates (state_after tie marks lines) tie (after (published_edits tie marks lines))

-- of any state, this is told of the objects that were published last
abbrev pub PublishedTimelinesGiveTheLeastMatching : Type 0
PublishedTimelinesGiveTheLeastMatching = (s : State) → TellsTimelines s s.tie (last_book s)

abbrev pub PublishedStatesTellTheLeastMatching : Type 0
PublishedStatesTellTheLeastMatching = (s : State) → TellsStates s s.tie (last_book s)

-- what governs in them is, at each resource, payload type and instant, the least matching interval, and none where none
-- matches
abbrev pub GovernsTheLeastMatching : Type 0
GovernsTheLeastMatching =
    (s : State) (id : List ℕ) (payload_type : PayloadType) (t : ℤ)
    → IsGovernor s.tie (last_book s) id payload_type t (governs s.tie (last_book s) id payload_type t)

-- ---- which state it is

-- The state after any lines is one that the machine of edits and publications reaches from its start, under the rule for
-- ties, by the edits, publications and condensings that stand on the lines, in order.
abbrev pub LinesAreSteps : Type 0
LinesAreSteps =
    (tie : Tie) (marks : List Bool) (lines : List (List ℕ))
    → Runs (script_start tie) (flat_map actions_of (commands_on marks lines)) (state_after tie marks lines)

-- So the rule for ties stays, and the accepted edits of the lines left the state: its objects and those of each
-- publication, whatever was condensed.
abbrev pub AcceptedEditsLeaveTheState : Type 0
AcceptedEditsLeaveTheState =
    (tie : Tie) (marks : List Bool) (lines : List (List ℕ))
    → ((state_after tie marks lines).tie ≡ tie) × IsLeftBy (accepted_edits tie marks lines) (state_after tie marks lines)

-- and from there the text goes on: that of lines and more is that of the lines, and then that of the others from the
-- state that the lines left
abbrev pub TextsGoOn : Type 0
TextsGoOn =
    (tie : Tie) (marks rest : List Bool) (lines more : List (List ℕ)) → length marks ≡ length lines
    → text_but script_reply script_next (marks ++ rest) (script_start tie) (lines ++ more)
    ≡ text_but script_reply script_next marks (script_start tie) lines ++ text_but script_reply script_next rest (state_after tie marks lines) more

-- ---- what changes nothing, and what is kept

-- a line that is refused changes nothing, and neither does an edit
abbrev pub RefusalsChangeNothing : Type 0
RefusalsChangeNothing =
    (s : State) (line : List ℕ) (f : Refusal) → line_named line ≡ Err f → (script_reply s line ≡ refusal_line f) × (script_next s line ≡ s)

abbrev pub RefusedEditsChangeNothing : Type 0
RefusedEditsChangeNothing =
    (s : State) (x : Change) (f : Refusal) → step_to (full_at s.base) s.current x ≡ Err f
    → (command_reply s (Edit x) ≡ refusal_line f) × (command_next s (Edit x) ≡ s)

-- an accepted edit is the last of the open batch, and is answered `ok` with its version
abbrev pub AcceptedEditsAreKept : Type 0
AcceptedEditsAreKept =
    (s : State) (x : Change) (book : Book) → step_to (full_at s.base) s.current x ≡ Ok book
    → (command_reply s (Edit x) ≡ ok_line book.version)
    × (command_next s (Edit x) ≡ record s { current = book; pending = s.pending ++ x ∷ [] })

-- a query changes nothing
abbrev pub QueriesChangeNothing : Type 0
QueriesChangeNothing = (s : State) (command : Command) (query : Query) → query_of command ≡ Some query → command_next s command ≡ s
