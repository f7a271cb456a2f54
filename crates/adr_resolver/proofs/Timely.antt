-- A query is sent when no later publication than the last is there.
use Rattle.std.proofs.Common.{ℕ, ◌-◌, ◌≤◌, Bool, true, false, List, [], ◌∷◌, ◌++◌, length, nat_lt, arith, if◌then◌else◌}
use Rattle.std.specs.Prelude.{Result, Ok, Err}
use Rattle.std.specs.List.{AllByRecursion}
use Rattle.std.specs.Io.BufRead.{strip_last}
use Rattle.std.proofs.lemmas.List.{length_push}
use Rattle.adr_value.specs.declared.limits.TheConstants.{MOST_PUBLICATIONS}
use Rattle.adr_refusal.specs.declared.refusal.Refusal.{Refusal}
use Rattle.adr_refusal.specs.declared.refusal.Refusal.TheVariants.{Full}
use Rattle.adr_object.specs.declared.object.Edit.{Edit as Change}
use Rattle.adr_model.specs.Book.{Book}
use Rattle.adr_model.specs.Edits.{full_at, step_to}
use Rattle.adr_model.specs.Machine.{Publication, Reply, State, after_edit, last_number, published as published_as, refused}
use Rattle.adr_model.specs.Queries.{Query, at_query, list_query, roll_query, types_query}
use Rattle.adr_script.specs.Text.{state_but, after_line}
use Rattle.adr_resolver.specs.declared.command.Command.{Command}
use Rattle.adr_resolver.specs.declared.command.Command.TheVariants.{Edit, Publish, Condense, At, List as Listed, Roll, Types}
use Rattle.adr_resolver.specs.Fan.{Sent, Fan, most_queries, editor_next, fan_next}
use Rattle.adr_resolver.specs.Line.{line_named}
use Rattle.adr_resolver.specs.Text.{next_or}

abbrev pub IsSentBy : ℕ → List Sent → Type 0
IsSentBy number sent = AllByRecursion (λ q. q.number ≤ number) sent

later : (a b : ℕ) (sent : List Sent) → a ≤ b → IsSentBy a sent → IsSentBy b sent
later a b [] h all = tt
later a b (q ∷ sent) h all = (omega (arith, h, all.0), later a b sent h all.1)

pushed : (a : ℕ) (sent : List Sent) (q : Sent) → q.number ≤ a → IsSentBy a sent → IsSentBy a (sent ++ q ∷ [])
pushed a [] q h all = (h, tt)
pushed a (p ∷ sent) q h all = (all.0, pushed a sent q h all.1)

abbrev pub IsTimely : Fan → Type 0
IsTimely fan = IsSentBy (last_number fan.machine) fan.sent

edited : (fan : Fan) (x : Change) (r : Result Book Refusal) → IsTimely fan → IsTimely (record fan { machine = (after_edit fan.machine x r).1 })
edited fan x (Ok book) h = h
edited fan x (Err f) h = h

published : (fan : Fan) (b : Bool) (reply full : Reply) → IsTimely fan
    → IsTimely (record fan { machine = (if◌then◌else◌ {A = Reply × State} b (reply, record fan.machine { published = fan.machine.published ++ record { book = fan.machine.current; batch = fan.machine.pending } ∷ []; pending = [] }) (full, fan.machine)).1 })
published fan true reply full h =
    let one : Publication = record { book = fan.machine.current; batch = fan.machine.pending } in
    let long = length_push fan.machine.published one in
    later (last_number fan.machine) (length (fan.machine.published ++ one ∷ []) - 1) fan.sent (omega (arith, long)) h
published fan false reply full h = h

sent_on : (fan : Fan) (query : Query) (b : Bool) → IsTimely fan → IsTimely (if b then record fan { sent = fan.sent ++ (record { query = query; number = last_number fan.machine }) ∷ [] } else fan)
sent_on fan query true h = pushed (last_number fan.machine) fan.sent (record { query = query; number = last_number fan.machine }) (omega arith) h
sent_on fan query false h = h

timely_next : (fan : Fan) (r : Result Command Refusal) → IsTimely fan → IsTimely (next_or fan (editor_next fan) r)
timely_next fan (Err f) h = h
timely_next fan (Ok (Edit x)) h = edited fan x (step_to (full_at fan.machine.base) fan.machine.current x) h
timely_next fan (Ok Publish) h = published fan (nat_lt (last_number fan.machine) MOST_PUBLICATIONS) (published_as (length fan.machine.published) fan.machine.current.version) (refused Full) h
timely_next fan (Ok Condense) h = h
timely_next fan (Ok (At id payload_type moment)) h = sent_on fan (at_query id payload_type moment) (nat_lt (length fan.sent) most_queries) h
timely_next fan (Ok (Listed id payload_type from to)) h = sent_on fan (list_query id payload_type from to) (nat_lt (length fan.sent) most_queries) h
timely_next fan (Ok (Roll payload_type moment)) h = sent_on fan (roll_query payload_type moment) (nat_lt (length fan.sent) most_queries) h
timely_next fan (Ok (Types id)) h = sent_on fan (types_query id) (nat_lt (length fan.sent) most_queries) h

timely_if : (b : Bool) (fan next : Fan) → IsTimely fan → IsTimely next → IsTimely (if b then fan else next)
timely_if true fan next h k = h
timely_if false fan next h k = k

timely_line : (fan : Fan) (line : List ℕ) → IsTimely fan → IsTimely (after_line fan_next fan line)
timely_line fan line h = timely_if (nat_lt 4194304 (length line)) fan (fan_next fan (strip_last 13 line)) h (timely_next fan (line_named (strip_last 13 line)) h)

pub timely_after : (marks : List Bool) (lines : List (List ℕ)) (fan : Fan) → IsTimely fan → IsTimely (state_but fan_next marks fan lines)
timely_after marks [] fan h = h
timely_after [] (line ∷ lines) fan h = timely_after [] lines (after_line fan_next fan line) (timely_line fan line h)
timely_after (true ∷ marks) (line ∷ lines) fan h = timely_after marks lines fan h
timely_after (false ∷ marks) (line ∷ lines) fan h = timely_after marks lines (after_line fan_next fan line) (timely_line fan line h)
