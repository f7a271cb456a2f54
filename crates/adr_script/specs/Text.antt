-- What a script is answered by a machine that is a function: `reply` is what it replies to a line, and `next` what it
-- is after it.
use Rattle.std.specs.Prelude.{◌≡◌, ℕ, Bool, true, false, List, [], ◌∷◌, ◌++◌, length, nat_lt, if◌then◌else◌}
use Rattle.std.specs.Io.BufRead.{strip_last}
use Rattle.adr_script.specs.Script.{long_line, no_memory}

-- the relation of such a machine
abbrev pub AnswersBy : {S : Type 0} → (S → List ℕ → List ℕ) → (S → List ℕ → S) → S → List ℕ → List ℕ → S → Type 0
AnswersBy reply next s line told t = (told ≡ reply s line) × (t ≡ next s line)

-- what a line is replied where memory isn't refused: the machine never sees one that is too long
abbrev pub line_reply : {S : Type 0} → (S → List ℕ → List ℕ) → S → List ℕ → List ℕ
line_reply reply s line = if nat_lt 4194304 (length line) then long_line else reply s (strip_last 13 line)

abbrev pub after_line : {S : Type 0} → (S → List ℕ → S) → S → List ℕ → S
after_line next s line = if nat_lt 4194304 (length line) then s else next s (strip_last 13 line)

-- the replies to these lines, one behind the other
abbrev pub text : {S : Type 0} → (S → List ℕ → List ℕ) → (S → List ℕ → S) → S → List (List ℕ) → List ℕ
text reply next s [] = []
text reply next s (line ∷ lines) = line_reply reply s line ++ text reply next (after_line next s line) lines

-- the text where the lines that a mark stands for are refused for want of memory; they change nothing
abbrev pub text_but : {S : Type 0} → (S → List ℕ → List ℕ) → (S → List ℕ → S) → List Bool → S → List (List ℕ) → List ℕ
text_but reply next marks s [] = []
text_but reply next [] s (line ∷ lines) = line_reply reply s line ++ text_but reply next [] (after_line next s line) lines
text_but reply next (true ∷ marks) s (line ∷ lines) = no_memory ++ text_but reply next marks s lines
text_but reply next (false ∷ marks) s (line ∷ lines) = line_reply reply s line ++ text_but reply next marks (after_line next s line) lines

-- what the machine is after those lines
abbrev pub state_but : {S : Type 0} → (S → List ℕ → S) → List Bool → S → List (List ℕ) → S
state_but next marks s [] = s
state_but next [] s (line ∷ lines) = state_but next [] (after_line next s line) lines
state_but next (true ∷ marks) s (line ∷ lines) = state_but next marks s lines
state_but next (false ∷ marks) s (line ∷ lines) = state_but next marks (after_line next s line) lines

-- The bytes are the text of these lines, of which any may be refused for want of memory.
abbrev pub IsText : {S : Type 0} → (S → List ℕ → List ℕ) → (S → List ℕ → S) → S → List (List ℕ) → List ℕ → Type 0
IsText reply next s lines out = (marks : List Bool) × (out ≡ text_but reply next marks s lines)

-- the text, perhaps cut short
abbrev pub IsTextInPart : {S : Type 0} → (S → List ℕ → List ℕ) → (S → List ℕ → S) → S → List (List ℕ) → List ℕ → Type 0
IsTextInPart reply next s lines out = (more : List ℕ) × IsText reply next s lines (out ++ more)
