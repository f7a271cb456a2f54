-- What is kept of a line that has begun.
use Rattle.std.specs.Prelude.{◌≡◌, ℕ, ◌<◌, ◌≤◌, List, length, Option, Some, None}
use Rattle.adr_script.specs.declared.line.Begun.{Begun}
use Rattle.adr_script.specs.declared.line.Lost.{Lost}
use Rattle.adr_script.specs.declared.line.Lost.TheVariants.{TooLong, NoMemory}

abbrev pub Keeps : List ℕ → Option Lost → List ℕ → Type 0
Keeps bytes None line = (bytes ≡ line) × (length line ≤ 4194304)
Keeps bytes (Some TooLong) line = 4194304 < length line
Keeps bytes (Some NoMemory) line = 0 < length line

abbrev pub Holds : Begun → List ℕ → Type 0
Holds begun line = Keeps begun.bytes.items begun.lost line
