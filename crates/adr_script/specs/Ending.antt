-- How a run that got to its first read ends.
use Rattle.std.specs.Prelude.{◌≡◌, ◌^◌, ℕ, List, true, false, Option, Result, Ok, Err}
use Rattle.std.specs.Io.KnownBytes.{IsAtEnd}
use Rattle.adr_script.specs.declared.fault.Fault.{Fault}
use Rattle.adr_script.specs.declared.fault.Fault.TheVariants.{Reading, Reads, Writing, Runtime}
use Rattle.adr_script.specs.declared.log.ReadLog.{ReadLog}
use Rattle.adr_script.specs.declared.log.WriteLog.{WriteLog}
use Rattle.adr_script.specs.Lines.{all_lines, complete_lines}
use Rattle.adr_script.specs.Logs.{reads_made, has_read_failed, has_ended, has_write_failed}
use Rattle.adr_script.specs.Script.{Told, IsToldInPart, Moves}

-- At the end of the input each line is answered. Where no more is read the lines that were complete are answered, and
-- the begun one isn't. Where no more is written the replies stop somewhere. A fault is in its log, and no other is.
abbrev pub Ends : {S A : Type 0} → (S → List ℕ → List ℕ → S → Type 0) → Type 0 → Option (List ℕ) → Option (List ℕ)
    → Option (List ℕ) → Option (List ℕ) → S → S → ReadLog → WriteLog → Result A Fault → Type 0
Ends answers halts left_old left_new held_old held_new s t reads writes (Ok _) =
    Moves left_old left_new held_old held_new (λ bytes out. Told answers s (all_lines bytes) out t)
    × IsAtEnd left_new × (has_ended reads ≡ true) × (has_read_failed reads ≡ false) × (has_write_failed writes ≡ false)
Ends answers halts left_old left_new held_old held_new s t reads writes (Err Reading) =
    Moves left_old left_new held_old held_new (λ bytes out. Told answers s (complete_lines bytes) out t)
    × (has_read_failed reads ≡ true) × (has_write_failed writes ≡ false)
Ends answers halts left_old left_new held_old held_new s t reads writes (Err Reads) =
    Moves left_old left_new held_old held_new (λ bytes out. Told answers s (complete_lines bytes) out t)
    × (reads_made reads ≡ 2 ^ 32) × (has_read_failed reads ≡ false) × (has_write_failed writes ≡ false)
Ends answers halts left_old left_new held_old held_new s t reads writes (Err Writing) =
    Moves left_old left_new held_old held_new (λ bytes out. IsToldInPart answers s (all_lines bytes) out t)
    × (has_read_failed reads ≡ false) × (has_write_failed writes ≡ true)
Ends answers halts left_old left_new held_old held_new s t reads writes (Err Runtime) =
    Moves left_old left_new held_old held_new (λ bytes out. IsToldInPart answers s (all_lines bytes) out t)
    × halts × (has_read_failed reads ≡ false) × (has_write_failed writes ≡ false)
