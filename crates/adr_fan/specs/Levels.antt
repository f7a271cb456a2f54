-- What the threads and the input come to.
use Rattle.std.specs.Prelude.{◌≡◌, ◌⊎◌, ◌+◌, ◌^◌, ℕ, true, false, List, ◌++◌, length, Option, Result, Ok, Err, IfOk, IfErr, OnOk, OnErr, IsErrOf}
use Rattle.adr_script.specs.declared.fault.Fault.{Fault}
use Rattle.adr_script.specs.declared.fault.Fault.TheVariants.{Reading, Reads, Writing, Runtime}
use Rattle.adr_script.specs.declared.log.ReadLog.{ReadLog}
use Rattle.adr_script.specs.declared.log.WriteLog.{WriteLog}
use Rattle.adr_script.specs.Logs.{reads_made, has_ended, has_read_failed, has_write_failed}
use Rattle.std.specs.Io.KnownBytes.{Appends, IsAtEnd}
use Rattle.adr_script.specs.Lines.{all_lines, complete_lines}
use Rattle.adr_script.specs.Script.{Told, IsToldInPart, Moves}
use Rattle.adr_script.specs.Text.{AnswersBy}
use Rattle.adr_model.specs.declared.entry.Tie.{Tie}
use Rattle.adr_fan.specs.declared.levels.Collected.{Collected}
use Rattle.adr_fan.specs.declared.levels.Ending.{Ending}
use Rattle.adr_fan.specs.declared.levels.Ending.TheVariants.{All, ReadFailed, NoMoreReads}
use Rattle.adr_fan.specs.declared.levels.Stop.{Stop}
use Rattle.adr_fan.specs.declared.levels.Stop.TheVariants.{WriteFailed, NoRuntime}
use Rattle.adr_fan.specs.Parts.{AreParts}
use Rattle.adr_resolver.specs.Fan.{Fan, fan_reply, fan_next, IsFanned, IsFannedOf}
use Rattle.adr_resolver.specs.Outcome.{IsCaused}

-- the lines that are answered where the input ended so
abbrev pub lines_told : Ending → List ℕ → List (List ℕ)
lines_told All bytes = all_lines bytes
lines_told ReadFailed bytes = complete_lines bytes
lines_told NoMoreReads bytes = complete_lines bytes

-- the editor read some bytes and answered those lines of them
abbrev pub HasTold : Ending → Fan → Option (List ℕ) → Option (List ℕ) → Option (List ℕ) → Option (List ℕ) → Fan → Type 0
HasTold ending s left_old left_new held_old held_new t =
    Moves left_old left_new held_old held_new (λ bytes out. Told (AnswersBy fan_reply fan_next) s (lines_told ending bytes) out t)

-- the editor read some bytes and answered some lines of them, the last perhaps in part
abbrev pub HasToldInPart : Fan → Option (List ℕ) → Option (List ℕ) → Option (List ℕ) → Option (List ℕ) → Fan → Type 0
HasToldInPart s left_old left_new held_old held_new t =
    Moves left_old left_new held_old held_new (λ bytes out. IsToldInPart (AnswersBy fan_reply fan_next) s (all_lines bytes) out t)

-- what the loop leaves: the lines that it answered, by how the input ended, and what its reads and writes met
pub record IsServed (s : Fan) (left_old left_new held_old held_new : Option (List ℕ)) (reads : ReadLog) (writes : WriteLog) (t : Fan) (result : Result Collected Stop) : Type 0 where
  pub told : IfOk result (λ c. HasTold c.ending s left_old left_new held_old held_new t)
  pub end : IfOk result (λ c. c.ending ≡ All → IsAtEnd left_new)
  pub err : OnErr result (HasToldInPart s left_old left_new held_old held_new t)
  pub ended : IfOk result (λ c. c.ending ≡ All → has_ended reads ≡ true)
  pub read_ends : IfOk result (λ c. c.ending ≡ All → has_read_failed reads ≡ false)
  pub write_ends : has_write_failed writes ≡ true → result ≡ Err WriteFailed
  pub read_failed : IfOk result (λ c. c.ending ≡ ReadFailed → has_read_failed reads ≡ true)
  pub no_more_reads : IfOk result (λ c. c.ending ≡ NoMoreReads → reads_made reads ≡ 2 ^ 32)
  pub write_failed : IsErrOf result WriteFailed → has_write_failed writes ≡ true

-- What was collected, with the part of one reader more, whose replies are checked: the input ended as it did before, and a
-- run without a runtime for it stops. Where nothing was collected, nothing is
abbrev pub GoesOn : Fan → Result Collected Stop → Result Collected Stop → Type 0
GoesOn fan (Err stop) after = after ≡ Err stop
GoesOn fan (Ok before) after =
    IfOk after (λ c. (c.ending ≡ before.ending) × (length c.parts.items ≡ length before.parts.items + 1) × (AreParts fan before.parts.items → AreParts fan c.parts.items))
    × IfErr after (λ stop. stop ≡ NoRuntime)

-- a front of the text was written
abbrev pub WritesPart : Option (List ℕ) → Option (List ℕ) → List ℕ → Type 0
WritesPart old new text = (part : List ℕ) × (more : List ℕ) × (text ≡ part ++ more) × Appends old new part

-- the text of many readers, perhaps cut short
abbrev pub IsFannedInPart : Tie → List (List ℕ) → ℕ → List ℕ → Type 0
IsFannedInPart tie lines readers out = (more : List ℕ) × IsFannedOf tie lines readers (out ++ more)

-- the text stops somewhere, of all lines or, behind a failed read, of the complete ones
abbrev pub IsCutShort : Tie → List ℕ → ℕ → List ℕ → Type 0
IsCutShort tie bytes readers out = IsFannedInPart tie (all_lines bytes) readers out ⊎ IsFannedInPart tie (complete_lines bytes) readers out

-- how a run ends whose input ended so
abbrev pub ended_as : Ending → Result (Unit {0}) Fault
ended_as All = Ok tt
ended_as ReadFailed = Err Reading
ended_as NoMoreReads = Err Reads

-- the fault of a run that stops so
abbrev pub fault_of : Stop → Fault
fault_of WriteFailed = Writing
fault_of NoRuntime = Runtime

-- the whole text was written behind what was held, or a write failed amid it
abbrev pub HasWritten : Ending → Result (Unit {0}) Fault → Option (List ℕ) → Option (List ℕ) → List ℕ → Type 0
HasWritten ending result old new text = ((result ≡ Err Writing) × WritesPart old new text) ⊎ ((result ≡ ended_as ending) × Appends old new text)

-- What was written is a text of many readers of what was read, by how the run ended. At the end of the input all lines are
-- answered. Where no more is read, those that were complete are, and the begun one isn't. Where no more is written, or a
-- thread or its replies are missing, the text stops somewhere.
pub record IsFanRun (tie : Tie) (readers : ℕ) (left_old left_new held_old held_new : Option (List ℕ)) (result : Result (Unit {0}) Fault) : Type 0 where
  pub ok : OnOk result (Moves left_old left_new held_old held_new (λ bytes out. IsFanned tie bytes readers out))
  pub end : OnOk result (IsAtEnd left_new)
  pub reading : IsErrOf result Reading → Moves left_old left_new held_old held_new (λ bytes out. IsFannedOf tie (complete_lines bytes) readers out)
  pub reads_end : IsErrOf result Reads → Moves left_old left_new held_old held_new (λ bytes out. IsFannedOf tie (complete_lines bytes) readers out)
  pub writing : IsErrOf result Writing → Moves left_old left_new held_old held_new (λ bytes out. IsCutShort tie bytes readers out)
  pub runtime : IsErrOf result Runtime → Moves left_old left_new held_old held_new (λ bytes out. IsCutShort tie bytes readers out)

-- and what its reads and writes met
pub record IsFanOutcome (tie : Tie) (readers : ℕ) (left_old left_new held_old held_new : Option (List ℕ)) (reads : ReadLog) (writes : WriteLog) (result : Result (Unit {0}) Fault) : Type 0 where
  pub run : IsFanRun tie readers left_old left_new held_old held_new result
  pub cause : IsCaused reads writes result
  pub read_ends : OnOk result (has_read_failed reads ≡ false)
