-- The state after any lines is reached by steps of the machine, and the accepted edits left it.
use Rattle.std.proofs.Common.{◌≡◌, ℕ, ◌+◌, ◌≤◌, Bool, true, false, List, [], ◌∷◌, ◌++◌, length, fold, take, drop, refl, sym, ap, ap₂, subst, ◌∙◌, cond, nat_lt, append_assoc, append-nil, take-append-drop, arith, if◌then◌else◌}
use Rattle.std.specs.Prelude.{flat_map, Result, Ok, Err, is_ok}
use Rattle.std.specs.Io.BufRead.{strip_last}
use Rattle.std.proofs.Math.Seq.{take-append_seam}
use Rattle.std.proofs.lemmas.Grind.{flat_map-append}
use Rattle.adr_value.specs.declared.limits.TheConstants.{MOST_PUBLICATIONS}
use Rattle.adr_refusal.specs.declared.refusal.Refusal.{Refusal}
use Rattle.adr_refusal.specs.declared.refusal.Refusal.TheVariants.{Full}
use Rattle.adr_object.specs.declared.object.Edit.{Edit as Change}
use Rattle.adr_model.specs.Book.{Book}
use Rattle.adr_model.specs.Edits.{after, full_at, step_to}
use Rattle.adr_model.specs.Laws.{Runs, all_edits, edits_up_to}
use Rattle.adr_model.specs.Machine.{Reply, State, published, refused, after_edit, after_publish, after_condense, book_of, last_number}
use Rattle.adr_model.proofs.MachineLaws.{publications_are_their_edits, versions_count_edits}
use Rattle.adr_script.specs.Script.{no_memory}
use Rattle.adr_script.specs.Text.{after_line, line_reply, state_but, text_but}
use Rattle.adr_resolver.specs.declared.command.Command.{Command}
use Rattle.adr_resolver.specs.declared.command.Command.TheVariants.{Edit, Publish, Condense, At, List as Listed, Roll, Types}
use Rattle.adr_resolver.specs.Laws.{AcceptedEditsLeaveTheState, LinesAreSteps, TextsGoOn}
use Rattle.adr_resolver.specs.Line.{line_named}
use Rattle.adr_resolver.specs.Reached.{accepted_edits, accepted_from, accepted_on, actions_of, command_on, commands_on, state_after}
use Rattle.adr_resolver.specs.Text.{command_next, next_or, script_next, script_reply, script_start}

-- ---- lines are commands

-- the state after commands
abbrev left_by : State → List Command → State
left_by s commands = fold command_next s commands

line_left : (s : State) (line : List ℕ) (more : List Command) → left_by (after_line script_next s line) more ≡ left_by s (command_on line ++ more)
line_left s line more = by (nat_lt 4194304 (length line)) (line_named (strip_last 13 line))
  where
    by : (long : Bool) (named : Result Command Refusal)
        → left_by (cond long s (next_or s (command_next s) named)) more ≡ left_by s (cond long [] (next_or [] (λ command. command ∷ []) named) ++ more)
    by true named = refl
    by false (Ok command) = refl
    by false (Err f) = refl

lines_left : (marks : List Bool) (s : State) (lines : List (List ℕ)) → state_but script_next marks s lines ≡ left_by s (commands_on marks lines)
lines_left marks s [] = refl
lines_left [] s (line ∷ lines) = lines_left [] (after_line script_next s line) lines ∙ line_left s line (commands_on [] lines)
lines_left (true ∷ marks) s (line ∷ lines) = lines_left marks s lines
lines_left (false ∷ marks) s (line ∷ lines) = lines_left marks (after_line script_next s line) lines ∙ line_left s line (commands_on marks lines)

-- ---- the text goes on

module _ {S : Type 0} (reply : S → List ℕ → List ℕ) (next : S → List ℕ → S) where
  goes_on : (marks rest : List Bool) (s : S) (lines more : List (List ℕ)) → length marks ≡ length lines
      → text_but reply next (marks ++ rest) s (lines ++ more) ≡ text_but reply next marks s lines ++ text_but reply next rest (state_but next marks s lines) more
  goes_on [] rest s [] more h = refl
  goes_on [] rest s (line ∷ lines) more h = absurd (omega (arith, h))
  goes_on (mark ∷ marks) rest s [] more h = absurd (omega (arith, h))
  goes_on (true ∷ marks) rest s (line ∷ lines) more h =
      ap (λ l. no_memory ++ l) (goes_on marks rest s lines more (omega (arith, h)))
      ∙ sym (append_assoc no_memory (text_but reply next marks s lines) (text_but reply next rest (state_but next marks s lines) more))
  goes_on (false ∷ marks) rest s (line ∷ lines) more h =
      ap (λ l. line_reply reply s line ++ l) (goes_on marks rest (after_line next s line) lines more (omega (arith, h)))
      ∙ sym (append_assoc (line_reply reply s line) (text_but reply next marks (after_line next s line) lines)
      (text_but reply next rest (state_but next marks (after_line next s line) lines) more))

pub texts_go_on : TextsGoOn
texts_go_on tie marks rest lines more h = goes_on script_reply script_next marks rest (script_start tie) lines more h

-- ---- commands are steps

commands_run : (s : State) (commands : List Command) → Runs s (flat_map actions_of commands) (left_by s commands)
commands_run s [] = refl
commands_run s (Edit x ∷ commands) =
    let (reply, next) = after_edit s x (step_to (full_at s.base) s.current x) in
    (reply, next, refl, commands_run (command_next s (Edit x)) commands)
commands_run s (Publish ∷ commands) = ((after_publish s).0, (after_publish s).1, refl, commands_run (command_next s Publish) commands)
commands_run s (Condense ∷ commands) = ((after_condense s).0, (after_condense s).1, refl, commands_run (command_next s Condense) commands)
commands_run s (At id payload_type moment ∷ commands) = commands_run s commands
commands_run s (Listed id payload_type from to ∷ commands) = commands_run s commands
commands_run s (Roll payload_type moment ∷ commands) = commands_run s commands
commands_run s (Types id ∷ commands) = commands_run s commands

pub lines_are_steps : LinesAreSteps
lines_are_steps tie marks lines =
    subst (λ t. Runs (script_start tie) (flat_map actions_of (commands_on marks lines)) t) (sym (lines_left marks (script_start tie) lines))
    (commands_run (script_start tie) (commands_on marks lines))

-- ---- the batches are the accepted edits

-- what holds of the state with one publication more and of the state as it is holds after an attempt to publish
by_publish : (s : State) (P : State → Type 0)
    → P (record s { published = s.published ++ record { book = s.current; batch = s.pending } ∷ []; pending = [] }) → P s → P (after_publish s).1
by_publish s P more same = by (nat_lt (last_number s) MOST_PUBLICATIONS)
  where
    by : (b : Bool)
        → P (if◌then◌else◌ {A = Reply × State} b (published (length s.published) s.current.version, record s { published = s.published ++ record { book = s.current; batch = s.pending } ∷ []; pending = [] }) (refused Full, s)).1
    by true = more
    by false = same

edit_batches : (s : State) (x : Change) (r : Result Book Refusal) → all_edits (after_edit s x r).1 ≡ all_edits s ++ cond (is_ok r) (x ∷ []) []
edit_batches s x (Ok book) = sym (append_assoc (flat_map (λ p. p.batch) s.published) s.pending (x ∷ []))
edit_batches s x (Err f) = sym (append-nil (all_edits s))

publish_batches : (s : State) → all_edits (after_publish s).1 ≡ all_edits s ++ []
publish_batches s =
    by_publish s (λ t. all_edits t ≡ all_edits s ++ [])
    (ap (λ l. l ++ [])
    (flat_map-append (λ p. p.batch) s.published (record { book = s.current; batch = s.pending } ∷ [])
    ∙ ap (λ l. flat_map (λ p. p.batch) s.published ++ l) (append-nil s.pending)))
    (sym (append-nil (all_edits s)))

command_batches : (s : State) (command : Command) → all_edits (command_next s command) ≡ all_edits s ++ accepted_on s command
command_batches s (Edit x) = edit_batches s x (step_to (full_at s.base) s.current x)
command_batches s Publish = publish_batches s
command_batches s Condense = sym (append-nil (all_edits s))
command_batches s (At id payload_type moment) = sym (append-nil (all_edits s))
command_batches s (Listed id payload_type from to) = sym (append-nil (all_edits s))
command_batches s (Roll payload_type moment) = sym (append-nil (all_edits s))
command_batches s (Types id) = sym (append-nil (all_edits s))

batches_are : (s : State) (commands : List Command) → all_edits (left_by s commands) ≡ all_edits s ++ accepted_from s commands
batches_are s [] = sym (append-nil (all_edits s))
batches_are s (command ∷ commands) =
    batches_are (command_next s command) commands
    ∙ ap (λ l. l ++ accepted_from (command_next s command) commands) (command_batches s command)
    ∙ append_assoc (all_edits s) (accepted_on s command) (accepted_from (command_next s command) commands)

-- ---- the rule for ties stays

edit_tie : (s : State) (x : Change) (r : Result Book Refusal) → (after_edit s x r).1.tie ≡ s.tie
edit_tie s x (Ok book) = refl
edit_tie s x (Err f) = refl

publish_tie : (s : State) → (after_publish s).1.tie ≡ s.tie
publish_tie s = by_publish s (λ t. t.tie ≡ s.tie) refl refl

tie_stays : (s : State) (commands : List Command) → (left_by s commands).tie ≡ s.tie
tie_stays s [] = refl
tie_stays s (Edit x ∷ commands) = tie_stays (command_next s (Edit x)) commands ∙ edit_tie s x (step_to (full_at s.base) s.current x)
tie_stays s (Publish ∷ commands) = tie_stays (command_next s Publish) commands ∙ publish_tie s
tie_stays s (Condense ∷ commands) = tie_stays (command_next s Condense) commands
tie_stays s (At id payload_type moment ∷ commands) = tie_stays s commands
tie_stays s (Listed id payload_type from to ∷ commands) = tie_stays s commands
tie_stays s (Roll payload_type moment ∷ commands) = tie_stays s commands
tie_stays s (Types id ∷ commands) = tie_stays s commands

-- ---- what the accepted edits left

-- the edits up to a publication are the first of all
first_edits : (s : State) (number : ℕ) → take (length (edits_up_to s number)) (all_edits s) ≡ edits_up_to s number
first_edits s number =
    ap (λ l. take (length (edits_up_to s number)) l)
    (ap (λ l. flat_map (λ p. p.batch) l ++ s.pending) (sym (take-append-drop (number + 1) s.published))
    ∙ ap (λ l. l ++ s.pending) (flat_map-append (λ p. p.batch) (take (number + 1) s.published) (drop (number + 1) s.published))
    ∙ append_assoc (edits_up_to s number) (flat_map (λ p. p.batch) (drop (number + 1) s.published)) s.pending)
    ∙ take-append_seam (edits_up_to s number) (flat_map (λ p. p.batch) (drop (number + 1) s.published) ++ s.pending)

pub accepted_edits_leave_the_state : AcceptedEditsLeaveTheState
accepted_edits_leave_the_state tie marks lines =
    (ap (λ (s : State). s.tie) same ∙ tie_stays start commands, record { current = current; published = each; batches = batches })
  where
    start : State
    start = script_start tie

    commands : List Command
    commands = commands_on marks lines

    end : State
    end = state_after tie marks lines

    same : end ≡ left_by start commands
    same = lines_left marks start lines

    run : Runs start (flat_map actions_of commands) end
    run = lines_are_steps tie marks lines

    batches : all_edits end ≡ accepted_edits tie marks lines
    batches = ap all_edits same ∙ batches_are start commands

    current : end.current ≡ after (accepted_edits tie marks lines)
    current = (publications_are_their_edits tie 0 end (flat_map actions_of commands) run).1 ∙ ap after batches

    each : (number : ℕ) → number ≤ last_number end → book_of end number ≡ after (take (book_of end number).version (accepted_edits tie marks lines))
    each number le =
        let count : (book_of end number).version ≡ length (edits_up_to end number) =
        (versions_count_edits tie 0 end (flat_map actions_of commands) run).0 number le in
        (publications_are_their_edits tie 0 end (flat_map actions_of commands) run).0 number le
        ∙ ap after (sym (first_edits end number))
        ∙ ap₂ (λ n l. after (take n l)) (sym count) batches
