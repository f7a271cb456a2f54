-- A run of the machine of one editor and many readers, by its steps and what they show.
use Rattle.std.specs.Prelude.{◌≡◌, ◌⊎◌, ⊤, ℕ, ◌<◌, max, List, [], ◌∷◌, length, get_or, Result, IfErr}
use Rattle.std.specs.Arc.{arc_value}
use Rattle.adr_refusal.specs.declared.refusal.Refusal.{Refusal}
use Rattle.adr_refusal.specs.declared.refusal.Refusal.TheVariants.{NoMemory, NoRuntime}
use Rattle.adr_model.specs.declared.entry.Tie.{Tie}
use Rattle.adr_model.specs.Machine.{Action, Publication, Reply, State, Steps, edit, publish, condense, tell, look, refused, done, published, condensed, told, seen, last_number, opening}
use Rattle.adr_book.specs.Ledger.{sealed_of}
use Rattle.adr_board.specs.Published.{PublishedBook}
use Rattle.adr_board.specs.Boards.{Board, View}
use Rattle.adr_board.specs.Publications.{publication_in, publications_in}
use Rattle.adr_board.specs.declared.run_steps.Step.{Step}
use Rattle.adr_board.specs.declared.run_steps.Step.TheVariants.{Edit, Publish, Condense, Tell, Look}
use Rattle.adr_board.specs.declared.run_steps.Shown.{Shown}
use Rattle.adr_board.specs.declared.run_steps.Shown.TheVariants.{Done, Refused, Published, Told, Condensed, Seen}

-- the step is of one of so many readers, or of the editor
abbrev pub NamesReader : ℕ → Step → Type 0
NamesReader readers (Tell i) = i < readers
NamesReader readers (Look i) = i < readers
NamesReader readers _ = ⊤

-- what the step is to the machine: who is told is told of all publications
abbrev pub action_of : State → Step → Action
action_of s (Edit x) = edit x
action_of s Publish = publish
action_of s Condense = condense
action_of s (Tell i) = tell i (last_number s)
action_of s (Look i) = look i

-- the snapshot is that of the publication whose number it has, under this rule for ties, and the base and the batches that it stores lead to
-- its objects
abbrev pub IsOf : Tie → List Publication → PublishedBook → Type 0
IsOf tie publications s = (s.number < length publications) × (get_or publications s.number opening ≡ publication_in s.book) × (s.tie ≡ tie) × (sealed_of s.book ≡ s.book.objects)

-- what is shown in a state says the reply
abbrev pub Says : State → Shown → Reply → Type 0
Says s (Done version) reply = reply ≡ done version
Says s (Refused refusal) reply = reply ≡ refused refusal
Says s (Published p) reply = reply ≡ published p.number p.version
Says s Told reply = reply ≡ told
Says s (Condensed version) reply = reply ≡ condensed version
Says s (Seen snapshot) reply = (reply ≡ seen (arc_value snapshot).number) × IsOf s.tie s.published (arc_value snapshot)

-- the machine may take the step from one state to the other, and show this
abbrev pub Takes : State → Step → Shown → State → Type 0
Takes s step shown t = (reply : Reply) × Steps s (action_of s step) (reply, t) × Says s shown reply

-- and so with each step, one after the other
abbrev pub IsRun : State → List Step → List Shown → State → Type 0
IsRun s [] [] t = s ≡ t
IsRun s (step ∷ steps) (x ∷ shown) t = (next : State) × Takes s step x next × IsRun next steps shown t
IsRun s _ _ t = ⊥

-- nothing but want of memory or of the runtime refuses a run
abbrev pub OnlyWant : {T : Type 0} → Result T Refusal → Type 0
OnlyWant r = IfErr r (λ refusal. (refusal ≡ NoMemory) ⊎ (refusal ≡ NoRuntime))

-- ---- a board with its readers, as a state of the machine

-- how many publications the reader has seen or learnt of
abbrev pub reach : View → ℕ
reach v = max (length v.seen) (length v.learnt)

-- each reader knows of a publication of its number
abbrev pub AreReached : List ℕ → List View → Type 0
AreReached [] [] = ⊤
AreReached (k ∷ numbers) (v ∷ views) = (k < reach v) × AreReached numbers views
AreReached _ _ = ⊥

-- the state of a board whose readers see from these numbers on
abbrev pub state_of : Board → List ℕ → State
state_of b numbers = record { tie = b.tie; base = b.book.base.version; current = b.book.objects; published = publications_in b.published; pending = b.book.pending; seen = numbers }

-- wherever the readers may stand by what they know, the machine may take the step from there, and they may stand there afterwards
abbrev pub IsStep : Board → List View → Step → Shown → Board → List View → Type 0
IsStep b views step shown c after =
    (numbers : List ℕ) → AreReached numbers views → (next : List ℕ) × AreReached next after × Takes (state_of b numbers) step shown (state_of c next)

-- and so with the steps, one after the other
abbrev pub AreSteps : Board → List View → List Step → List Shown → Board → List View → Type 0
AreSteps b views steps shown c after =
    (numbers : List ℕ) → AreReached numbers views → (next : List ℕ) × AreReached next after × IsRun (state_of b numbers) steps shown (state_of c next)
