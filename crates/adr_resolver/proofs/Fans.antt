-- The laws of `fan`'s text.
use Rattle.std.proofs.Common.{◌≡◌, ℕ, zero, suc, ◌+◌, ◌≤◌, Bool, true, false, List, [], ◌∷◌, ◌++◌, length, nat_lt, refl, ap, ◌∙◌, arith, inl, if◌then◌else◌}
use Rattle.std.specs.Prelude.{Result, Ok, Err}
use Rattle.std.specs.Io.BufRead.{strip_last}
use Rattle.adr_refusal.specs.declared.refusal.Refusal.{Refusal}
use Rattle.adr_model.specs.Machine.{State, last_number}
use Rattle.adr_model.specs.Queries.{Query, at_query, list_query, roll_query, types_query}
use Rattle.adr_script.specs.Text.{state_but, after_line}
use Rattle.adr_resolver.specs.declared.command.Command.{Command}
use Rattle.adr_resolver.specs.declared.command.Command.TheVariants.{Edit, Publish, Condense, At, List as Listed, Roll, Types}
use Rattle.adr_resolver.specs.Line.{line_named}
use Rattle.adr_resolver.specs.Text.{command_next, next_or, script_next, script_start}
use Rattle.adr_resolver.specs.Fan.{Sent, Fan, fan_start, most_queries, editor_next, fan_next, answer_from, IsReaderPart, AreReaderParts, part_from_last, parts_from_last, parts_after, FanLeavesTheState, FanRunsTheScript, ReadersMayAnswerAtTheEnd}
use Rattle.adr_resolver.proofs.Timely.{timely_after, IsSentBy}

-- ---- the editor's machine

unsent : (fan : Fan) (query : Query) (b : Bool) → (if b then record fan { sent = fan.sent ++ (record { query = query; number = last_number fan.machine }) ∷ [] } else fan).machine ≡ fan.machine
unsent fan query true = refl
unsent fan query false = refl

next_machine : (fan : Fan) (r : Result Command Refusal) → (next_or fan (editor_next fan) r).machine ≡ next_or fan.machine (command_next fan.machine) r
next_machine fan (Err f) = refl
next_machine fan (Ok (Edit x)) = refl
next_machine fan (Ok Publish) = refl
next_machine fan (Ok Condense) = refl
next_machine fan (Ok (At id payload_type moment)) = unsent fan (at_query id payload_type moment) (nat_lt (length fan.sent) most_queries)
next_machine fan (Ok (Listed id payload_type from to)) = unsent fan (list_query id payload_type from to) (nat_lt (length fan.sent) most_queries)
next_machine fan (Ok (Roll payload_type moment)) = unsent fan (roll_query payload_type moment) (nat_lt (length fan.sent) most_queries)
next_machine fan (Ok (Types id)) = unsent fan (types_query id) (nat_lt (length fan.sent) most_queries)

pub fan_runs_the_script : FanRunsTheScript
fan_runs_the_script fan line = next_machine fan (line_named line)

next_left : (fan : Fan) (s : State) (line : List ℕ) → fan.machine ≡ s → (after_line fan_next fan line).machine ≡ after_line script_next s line
next_left fan s line is = by (nat_lt 4194304 (length line))
  where
    by : (b : Bool) → (if b then fan else fan_next fan (strip_last 13 line)).machine ≡ (if b then s else script_next s (strip_last 13 line))
    by true = is
    by false = fan_runs_the_script fan (strip_last 13 line) ∙ ap (λ (m : State). script_next m (strip_last 13 line)) is

left_alike : (marks : List Bool) (fan : Fan) (s : State) (lines : List (List ℕ)) → fan.machine ≡ s → (state_but fan_next marks fan lines).machine ≡ state_but script_next marks s lines
left_alike marks fan s [] is = is
left_alike [] fan s (line ∷ lines) is = left_alike [] (after_line fan_next fan line) (after_line script_next s line) lines (next_left fan s line is)
left_alike (true ∷ marks) fan s (line ∷ lines) is = left_alike marks fan s lines is
left_alike (false ∷ marks) fan s (line ∷ lines) is = left_alike marks (after_line fan_next fan line) (after_line script_next s line) lines (next_left fan s line is)

pub fan_leaves_the_state : FanLeavesTheState
fan_leaves_the_state tie marks lines = left_alike marks (fan_start tie) (script_start tie) lines refl

-- ---- the readers' replies

part_is : (s : State) (sent : List Sent) (seen : ℕ) → seen ≤ last_number s → IsSentBy (last_number s) sent → IsReaderPart s seen sent (part_from_last s sent)
part_is s [] seen h all = refl
part_is s (q ∷ sent) seen h all =
    (last_number s, answer_from s (last_number s) q.query, part_from_last s sent, h, all.0, grind arith, inl refl, part_is s sent (last_number s) (grind arith) all.1, refl)

parts_are : (s : State) (sent : List Sent) (reader count : ℕ) → IsSentBy (last_number s) sent → AreReaderParts s sent reader count (parts_from_last s sent reader count)
parts_are s sent reader zero all = refl
parts_are s sent reader (suc count) all =
    (part_from_last s sent, parts_from_last s sent (reader + 1) count, part_is s sent 0 (grind arith) all, parts_are s sent (reader + 1) count all, refl)

pub readers_may_answer_at_the_end : ReadersMayAnswerAtTheEnd
readers_may_answer_at_the_end tie lines readers =
    let end : Fan = state_but fan_next [] (fan_start tie) lines in
    ([], parts_after end readers, parts_are end.machine end.sent 0 readers (timely_after [] lines (fan_start tie) tt), refl)
