-- What calls answer, and what they leave. A call answers 0, or the number of a refusal, or from 100 on what only C can get
-- wrong: 100 a closed handle, 101 an open one where a closed one is wanted, 102 no such rule for ties, 103 no such kind.
use Rattle.std.specs.Prelude.{◌≡◌, ◌⊎◌, ℕ, ◌<◌, pos, List, [], ◌++◌, length, drop, Option, Some, None, Result, Ok, Err, if◌then◌else◌, nat_eq, nat_le}
use Rattle.adr_refusal.specs.Refusal.{number_of}
use Rattle.adr_refusal.specs.declared.refusal.Refusal.{Refusal}
use Rattle.adr_refusal.specs.declared.refusal.Refusal.TheVariants.{NoMemory}
use Rattle.adr_time.specs.declared.span.End.{End}
use Rattle.adr_time.specs.declared.span.End.TheVariants.{At, Endless}
use Rattle.adr_object.specs.declared.object.Edit.{Edit}
use Rattle.adr_object.specs.declared.object.Kind.{Kind}
use Rattle.adr_object.specs.declared.object.Kind.TheVariants.{Program, Event, Ven, Resource}
use Rattle.adr_model.specs.declared.entry.Tie.{Tie}
use Rattle.adr_model.specs.declared.entry.Tie.TheVariants.{Newest, LatestStart}
use Rattle.adr_model.specs.declared.published.Published.{Published}
use Rattle.adr_model.specs.Kept.{kept_start}
use Rattle.adr_resolver.specs.Kept.{kept_next}
use Rattle.adr_embed.specs.declared.governor.GovernorSource.{GovernorSource}
use Rattle.adr_embed.specs.Answered.{asked_answer, line_answer}
use Rattle.adr_embed.specs.Governor.{Told}
use Rattle.adr_embed.specs.Held.{Edited, Seen}
use Rattle.adr_embed.specs.Instants.{instant}
use Rattle.adr_embed.specs.Steps.{IsCondensed, IsEdit, IsPublication}
use Rattle.adr_c.specs.declared.state.GovernorState.{GovernorState}

-- ---- numbers

-- the rule for ties of a number
abbrev pub tie_numbered : ℕ → Option Tie
tie_numbered n = if nat_eq n 0 then Some Newest else (if nat_eq n 1 then Some LatestStart else None)

-- the kind of a number
abbrev pub kind_numbered : ℕ → Option Kind
kind_numbered n =
    if nat_eq n 0 then Some Program
    else (if nat_eq n 1 then Some Event
    else (if nat_eq n 2 then Some Ven
    else (if nat_eq n 3 then Some Resource else None)))

-- the code of an answer
abbrev pub code_of : {T : Type 0} → Result T Refusal → ℕ
code_of (Ok x) = 0
code_of (Err f) = number_of f

-- the code is that of why there is no such answer, or of want of memory
abbrev pub IsRefused : {T : Type 0} → Result T Refusal → ℕ → Type 0
IsRefused answer code = (f : Refusal) × (code ≡ number_of f) × ((f ≡ NoMemory) ⊎ (answer ≡ Err f))

-- what is answered, or what was there before
abbrev pub told_or : Result ℕ Refusal → ℕ → ℕ
told_or (Ok n) before = n
told_or (Err f) before = before

abbrev pub number_or : Result Published Refusal → ℕ → ℕ
number_or (Ok p) before = p.number
number_or (Err f) before = before

abbrev pub version_or : Result Published Refusal → ℕ → ℕ
version_or (Ok p) before = p.version
version_or (Err f) before = before

-- ---- replies

-- what is written to where the caller wants the reply: the reply, if there is room for it
abbrev pub given : List ℕ → List ℕ → List ℕ
given reply out = if nat_le (length reply) (length out) then reply ++ drop (length reply) out else out

-- so it is, and its length is told, room or not
abbrev pub IsGiven : List ℕ → List ℕ → List ℕ → ℕ → Type 0
IsGiven reply before out len = (out ≡ given reply before) × (len ≡ length reply)

-- the reply that an editor or a reader holds; a closed one holds none
abbrev pub reply_held : Option Edited → List ℕ
reply_held None = []
reply_held (Some e) = e.reply

abbrev pub answer_held : Option Seen → List ℕ
answer_held None = []
answer_held (Some r) = r.reply

-- ---- handles

-- a closed handle stays closed, and the call answers 100 and leaves what it would have told; an open one stays open
abbrev pub OverOpen : {X : Type 0} → Option X → Option X → ℕ → Type 0 → (X → X → Type 0) → Type 0
OverOpen None None code Left Does = (code ≡ 100) × Left
OverOpen None (Some new) code Left Does = ⊥
OverOpen (Some old) None code Left Does = ⊥
OverOpen (Some old) (Some new) code Left Does = Does old new

-- an editor of that rule for ties is opened, with no objects, or there is no memory for it
abbrev pub OpensBy : Option Tie → Option Edited → ℕ → Type 0
OpensBy None new code = (code ≡ 102) × (new ≡ None)
OpensBy (Some tie) new code = ((code ≡ 0) × (new ≡ Some (record { kept = kept_start tie; reply = [] }))) ⊎ ((code ≡ 99) × (new ≡ None))

-- in a closed handle; an open one keeps what it holds
abbrev pub Opens : Option Edited → ℕ → Option Edited → ℕ → Type 0
Opens None tie new code = OpensBy (tie_numbered tie) new code
Opens (Some old) tie new code = (code ≡ 101) × (new ≡ Some old)

-- an open handle is closed
abbrev pub Closes : {X : Type 0} → Option X → Option X → ℕ → Type 0
Closes None new code = (code ≡ 100) × (new ≡ None)
Closes (Some old) new code = (code ≡ 0) × (new ≡ None)

-- a reader sees this from now on, whatever it saw before; it stays as it is where there is nothing to see or no memory
abbrev pub Sees : Option Seen → Option Seen → Option Seen → ℕ → Type 0
Sees None old new code = (code ≡ 100) × (new ≡ old)
Sees (Some seen) old new code = ((code ≡ 0) × (new ≡ Some seen)) ⊎ ((code ≡ 99) × (new ≡ old))

-- an editor's last publication, of which nothing was asked
abbrev pub last_of : Edited → Seen
last_of e = record { number = e.kept.number; tie = e.kept.tie; book = e.kept.published; reply = [] }

-- the same publication, of which nothing was asked
abbrev pub anew : Seen → Seen
anew r = record r { reply = [] }

-- ---- calls of an open editor

-- a line is answered, or refused, and then changes nothing
abbrev pub LineCall : Edited → Edited → List ℕ → ℕ → Type 0
LineCall old new line code =
    ((line_answer old.kept line ≡ Ok new.reply) × (code ≡ 0) × (new.kept ≡ kept_next old.kept line))
    ⊎ (IsRefused (line_answer old.kept line) code × (new ≡ record { kept = old.kept; reply = [] }))

-- an edit is made and its version told, or refused, and then changes nothing; so is one of no kind
abbrev pub EditCall : Edited → Edited → Option (Result Edit Refusal) → ℕ → ℕ → ℕ → Type 0
EditCall old new None code before version = (code ≡ 103) × (new ≡ old) × (version ≡ before)
EditCall old new (Some edit) code before version =
    (answer : Result ℕ Refusal) × IsEdit old.kept new.kept edit answer × (code ≡ code_of answer) × (version ≡ told_or answer before)
    × (new.reply ≡ old.reply)

abbrev pub PublishCall : Edited → Edited → ℕ → ℕ × ℕ → ℕ × ℕ → Type 0
PublishCall old new code before told =
    (answer : Result Published Refusal) × IsPublication old.kept new.kept answer × (code ≡ code_of answer)
    × (told.0 ≡ number_or answer before.0) × (told.1 ≡ version_or answer before.1) × (new.reply ≡ old.reply)

abbrev pub CondenseCall : Edited → Edited → ℕ → ℕ → ℕ → Type 0
CondenseCall old new code before version =
    (answer : Result ℕ Refusal) × IsCondensed old.kept new.kept answer × (code ≡ code_of answer) × (version ≡ told_or answer before)
    × (new.reply ≡ old.reply)

-- ---- calls of an open reader

-- a query is answered, or refused; the publication stays
abbrev pub AskCall : Seen → Seen → List ℕ → ℕ → Type 0
AskCall old new line code =
    ((asked_answer old.tie old.book line ≡ Ok new.reply) × (code ≡ 0) × (new ≡ record old { reply = new.reply }))
    ⊎ (IsRefused (asked_answer old.tie old.book line) code × (new ≡ record old { reply = [] }))

-- until when, in numbers
abbrev pub IsEnd : End → GovernorState → Type 0
IsEnd (At t) s = (s.is_endless ≡ 0) × (instant s.until_seconds s.until_nanoseconds ≡ t) × (s.until_nanoseconds < 1_000_000_000)
IsEnd Endless s = (s.is_endless ≡ 1) × (s.until_seconds ≡ pos 0) × (s.until_nanoseconds ≡ 0)

-- what governs, in numbers
abbrev pub IsSource : Option GovernorSource → GovernorState → Type 0
IsSource None s = (s.is_governed ≡ 0) × (s.interval ≡ pos 0) × (s.event_len ≡ 0) × (s.values_len ≡ 0)
IsSource (Some source) s = (s.is_governed ≡ 1) × (s.interval ≡ source.interval) × (s.event_len ≡ source.event_len) × (s.values_len ≡ source.values_len)

-- what governs is told, or the call is refused; the publication stays
abbrev pub GovernorCall : Seen → Seen → Result Told Refusal → ℕ → GovernorState → GovernorState → Type 0
GovernorCall old new answer code before state =
    ((told : Told) × (answer ≡ Ok told) × (code ≡ 0) × (new ≡ record old { reply = told.bytes }) × IsSource told.governor.source state × IsEnd told.governor.until state)
    ⊎ (IsRefused answer code × (new ≡ record old { reply = [] }) × (state ≡ before))
