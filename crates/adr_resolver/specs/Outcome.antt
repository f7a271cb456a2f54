-- What a run owes: what it has read and written, by how it ended, and what its reads and writes met.
use Rattle.std.specs.Prelude.{◌≡◌, ◌≤◌, ◌^◌, ℕ, true, false, List, Option, Result, Err, OnOk, IsErrOf}
use Rattle.std.specs.Io.KnownBytes.{Keeps, IsAtEnd}
use Rattle.adr_script.specs.declared.fault.Fault.{Fault}
use Rattle.adr_script.specs.declared.fault.Fault.TheVariants.{Reading, Reads, Writing, Runtime}
use Rattle.adr_script.specs.declared.log.Logs.{Logs}
use Rattle.adr_script.specs.declared.log.ReadLog.{ReadLog}
use Rattle.adr_script.specs.declared.log.WriteLog.{WriteLog}
use Rattle.adr_script.specs.Lines.{all_lines, complete_lines}
use Rattle.adr_script.specs.Logs.{reads_made, has_read_failed, has_ended, has_write_failed}
use Rattle.adr_script.specs.Script.{Moves}
use Rattle.adr_script.specs.Text.{IsText, IsTextInPart}

-- the logs before any read and any write
abbrev pub AreNew : Logs → Type 0
AreNew logs = (reads_made logs.reads ≡ 0) × (has_read_failed logs.reads ≡ false) × (has_write_failed logs.writes ≡ false)

-- What was written is the text of what was read, from s on. At the end of the input all lines are answered. Where no more
-- is read, those that were complete are, and the begun one isn't. Where no more is written the text stops somewhere, and
-- where a run can't begin nothing is read or written.
pub record IsRun {S : Type 0} (reply : S → List ℕ → List ℕ) (next : S → List ℕ → S) (s : S) (left_old left_new held_old held_new : Option (List ℕ)) (result : Result (Unit {0}) Fault) : Type 0 where
  pub ok : OnOk result (Moves left_old left_new held_old held_new (λ bytes out. IsText reply next s (all_lines bytes) out))
  pub end : OnOk result (IsAtEnd left_new)
  pub reading : IsErrOf result Reading → Moves left_old left_new held_old held_new (λ bytes out. IsText reply next s (complete_lines bytes) out)
  pub reads : IsErrOf result Reads → Moves left_old left_new held_old held_new (λ bytes out. IsText reply next s (complete_lines bytes) out)
  pub writing : IsErrOf result Writing → Moves left_old left_new held_old held_new (λ bytes out. IsTextInPart reply next s (all_lines bytes) out)
  pub runtime : IsErrOf result Runtime → Keeps left_old left_new × Keeps held_old held_new

-- A fault of reading or writing has its cause: a read or a write that failed, or all the reads that there are. A run that
-- ends well has met the end of the input, and a write that failed ends it.
pub record IsCaused (read_log : ReadLog) (write_log : WriteLog) (result : Result (Unit {0}) Fault) : Type 0 where
  pub bound : reads_made read_log ≤ 2 ^ 32
  pub ended : OnOk result (has_ended read_log ≡ true)
  pub read_failed : IsErrOf result Reading → has_read_failed read_log ≡ true
  pub no_more_reads : IsErrOf result Reads → reads_made read_log ≡ 2 ^ 32
  pub write_failed : IsErrOf result Writing → has_write_failed write_log ≡ true
  pub write_ends : has_write_failed write_log ≡ true → result ≡ Err Writing
