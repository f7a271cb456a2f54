-- What a run's reads and writes met.
use Rattle.std.specs.Prelude.{◌≡◌, ◌≤◌, ℕ, Bool, true, List, length, take, Option}
use Rattle.std.specs.Io.KnownBytes.{Consumes, Keeps, IsAtEnd}
use Rattle.adr_script.specs.declared.fault.Fault.{Fault}
use Rattle.adr_script.specs.declared.fault.Fault.TheVariants.{Reading, Reads, Writing, Runtime}
use Rattle.adr_script.specs.declared.log.ReadGiven.{ReadGiven}
use Rattle.adr_script.specs.declared.log.ReadGiven.TheVariants.{Bytes, End, Nothing}
use Rattle.adr_script.specs.declared.log.ReadLog.{ReadLog}
use Rattle.adr_script.specs.declared.log.WriteLog.{WriteLog}

-- how many reads were made, interrupted ones among them
abbrev pub reads_made : ReadLog → ℕ
reads_made log = log.made

abbrev pub has_read_failed : ReadLog → Bool
has_read_failed log = log.failed

-- a read gave no byte, though it had room
abbrev pub has_ended : ReadLog → Bool
has_ended log = log.ended

-- a write failed, or took no byte
abbrev pub has_write_failed : WriteLog → Bool
has_write_failed log = log.failed

-- one read took from what was left the bytes that it gave; an interrupted one took none
abbrev pub Gives : Option (List ℕ) → Option (List ℕ) → List ℕ → ReadLog → ReadGiven → Type 0
Gives left_old left_new piece log (Bytes count) = (count ≤ length piece) × Consumes left_old left_new (take count piece)
Gives left_old left_new piece log End = Keeps left_old left_new × IsAtEnd left_new × (has_ended log ≡ true)
Gives left_old left_new piece log Nothing = Keeps left_old left_new

-- why a reply isn't written: a write failed, or the machine halts
abbrev pub IsReplyFault : WriteLog → Type 0 → Fault → Type 0
IsReplyFault log halts Reading = ⊥
IsReplyFault log halts Reads = ⊥
IsReplyFault log halts Writing = has_write_failed log ≡ true
IsReplyFault log halts Runtime = halts
