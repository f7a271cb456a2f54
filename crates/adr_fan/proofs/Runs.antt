-- From what the loop told and the readers handed back to what was written.
use Rattle.std.proofs.Common.{◌≡◌, ℕ, ◌+◌, ◌≤◌, arith, List, [], ◌++◌, length, Option, refl, ap, ◌∙◌, sym, subst, append-nil, inl, inr}
use Rattle.std.proofs.lemmas.Result.{on_ok_weaker}
use Rattle.std.specs.declared.vec.Vec.{Vec}
use Rattle.std.specs.Prelude.{◌^◌, Result, Ok, Err, true, false, IfOk, OnOk, IsErrOf}
use Rattle.std.specs.Io.KnownBytes.{Appends, IsAtEnd}
use Rattle.adr_script.specs.declared.fault.Fault.{Fault}
use Rattle.adr_script.specs.declared.fault.Fault.TheVariants.{Reading, Reads, Writing, Runtime}
use Rattle.adr_script.specs.declared.log.ReadLog.{ReadLog}
use Rattle.adr_script.specs.declared.log.WriteLog.{WriteLog}
use Rattle.adr_script.specs.Logs.{reads_made, has_ended, has_read_failed, has_write_failed}
use Rattle.std.proofs.KnownBytes.{Consumes-nil, Appends-nil, Appends-trans}
use Rattle.adr_script.specs.Lines.{all_lines, complete_lines, rest_from, last_line}
use Rattle.adr_script.specs.Script.{Told, IsToldInPart, Moves}
use Rattle.adr_script.proofs.Telling.{part-more}
use Rattle.adr_model.specs.declared.entry.Tie.{Tie}
use Rattle.adr_fan.specs.declared.levels.Collected.{Collected}
use Rattle.adr_fan.specs.declared.levels.Ending.{Ending}
use Rattle.adr_fan.specs.declared.levels.Ending.TheVariants.{All, ReadFailed, NoMoreReads}
use Rattle.adr_fan.specs.declared.levels.Stop.{Stop}
use Rattle.adr_fan.specs.declared.levels.Stop.TheVariants.{WriteFailed, NoRuntime}
use Rattle.adr_fan.specs.declared.reading.Reply.{Reply}
use Rattle.adr_resolver.specs.Fan.{Fan, fan_start, AreReaderParts, IsFannedOf}
use Rattle.adr_fan.specs.Levels.{lines_told, GoesOn, HasTold, HasToldInPart, IsServed, WritesPart, IsFannedInPart, IsCutShort, ended_as, fault_of, HasWritten, IsFanOutcome}
use Rattle.adr_fan.specs.Parts.{AreParts, all_texts}
use Rattle.adr_fan.proofs.Parts.{parts_are}
use Rattle.adr_fan.proofs.CutShort.{Answers, fanned, fanned_in_part, told_in_part}

abbrev Known : Type 0
Known = Option (List ℕ)

whole : (s t : Fan) (lines : List (List ℕ)) (out : List ℕ) → Told Answers s lines out t → IsToldInPart Answers s lines out t
whole s t lines out told = ([], subst (λ o. Told Answers s lines o t) (sym (append-nil out)) told)

-- the complete lines, and the begun one not
begun : (s t : Fan) (bytes out : List ℕ) → Told Answers s (complete_lines bytes) out t → IsToldInPart Answers s (all_lines bytes) out t
begun s t bytes out told = part-more Answers s t (complete_lines bytes) (last_line (rest_from [] bytes)) out (whole s t (complete_lines bytes) out told)

pub told_part : (ending : Ending) (s t : Fan) (a b c d : Known) → HasTold ending s a b c d t → HasToldInPart s a b c d t
told_part All s t a b c d (bytes, out, consumed, appended, told) = (bytes, out, consumed, appended, whole s t (all_lines bytes) out told)
told_part ReadFailed s t a b c d (bytes, out, consumed, appended, told) = (bytes, out, consumed, appended, begun s t bytes out told)
told_part NoMoreReads s t a b c d (bytes, out, consumed, appended, told) = (bytes, out, consumed, appended, begun s t bytes out told)

-- nothing was read or written
pub told_nothing : (s : Fan) (a c : Known) → HasToldInPart s a a c c s
told_nothing s a c = ([], [], Consumes-nil a, Appends-nil c, ([], (refl, refl)))

module _ {Z : Type 0} (tie : Tie) (readers : ℕ) (s t : Fan) (start : s ≡ fan_start tie) (parts : List (Vec Reply Z)) (all : AreParts t parts) (count : length parts ≡ readers) where
  checked : AreReaderParts t.machine t.sent 0 readers (all_texts 0 parts)
  checked = subst (λ n. AreReaderParts t.machine t.sent 0 n (all_texts 0 parts)) count (parts_are t 0 parts all)

  pub all_written : (ending : Ending) (a b c d e : Known) → HasTold ending s a b c d t → Appends d e (all_texts 0 parts)
      → Moves a b c e (λ bytes out. IsFannedOf tie (lines_told ending bytes) readers out)
  all_written ending a b c d e (bytes, out, consumed, appended, told) more =
      (bytes, out ++ all_texts 0 parts, consumed, Appends-trans c d e out (all_texts 0 parts) appended more, fanned tie (lines_told ending bytes) readers s t start out (all_texts 0 parts) told checked)

  cut : (ending : Ending) (bytes out : List ℕ) → IsFannedInPart tie (lines_told ending bytes) readers out → IsCutShort tie bytes readers out
  cut All bytes out h = inl h
  cut ReadFailed bytes out h = inr h
  cut NoMoreReads bytes out h = inr h

  pub part_written : (ending : Ending) (a b c d e : Known) → HasTold ending s a b c d t → WritesPart d e (all_texts 0 parts)
      → Moves a b c e (λ bytes out. IsCutShort tie bytes readers out)
  part_written ending a b c d e (bytes, out, consumed, appended, told) (part, more, is, written) =
      (bytes, out ++ part, consumed, Appends-trans c d e out part appended written, cut ending bytes (out ++ part) (fanned_in_part tie (lines_told ending bytes) readers s t start out (all_texts 0 parts) part more told checked is))

pub stopped : (tie : Tie) (readers : ℕ) (s t : Fan) (a b c d : Known) → s ≡ fan_start tie → HasToldInPart s a b c d t → Moves a b c d (λ bytes out. IsCutShort tie bytes readers out)
stopped tie readers s t a b c d start (bytes, out, consumed, appended, told) = (bytes, out, consumed, appended, inl (told_in_part tie (all_lines bytes) readers s t start out told))

-- ---- what the loop leaves, where a level stops

pub not_begun : (s : Fan) (a d : Known) (reads : ReadLog) (writes : WriteLog) → has_write_failed writes ≡ false → IsServed s a a d d reads writes s (Err NoRuntime)
not_begun s a d reads writes fresh = record {
  told = tt;
  end = tt;
  err = told_nothing s a d;
  ended = tt;
  read_ends = tt;
  write_ends = λ h. absurd (cc (h, fresh));
  read_failed = tt;
  no_more_reads = tt;
  write_failed = λ h. absurd (cc h);
}

cut_off : {s t : Fan} {a b d e : Known} {reads : ReadLog} {writes : WriteLog} (c : Collected) → IsServed s a b d e reads writes t (Ok c) → IsServed s a b d e reads writes t (Err NoRuntime)
cut_off {s = s} {t = t} {a = a} {b = b} {d = d} {e = e} c served = record {
  told = tt;
  end = tt;
  err = told_part c.ending s t a b d e served.told;
  ended = tt;
  read_ends = tt;
  write_ends = λ h. absurd (cc (served.write_ends h));
  read_failed = tt;
  no_more_reads = tt;
  write_failed = λ h. absurd (cc h);
}

-- one part more, or none
pub goes_on : {s t : Fan} {a b d e : Known} {reads : ReadLog} {writes : WriteLog} (before after : Result Collected Stop) → GoesOn t before after → IsServed s a b d e reads writes t before → IsServed s a b d e reads writes t after
goes_on {s = s} {t = t} {a = a} {b = b} {d = d} {e = e} {reads = reads} {writes = writes} (Err stop) after same served = subst (λ r. IsServed s a b d e reads writes t r) (sym same) served
goes_on {s = s} {t = t} {a = a} {b = b} {d = d} {e = e} {reads = reads} {writes = writes} (Ok c) (Err stop) goes served =
    subst (λ f. IsServed s a b d e reads writes t (Err f)) (sym goes.1) (cut_off c served)
goes_on {s = s} {t = t} {a = a} {b = b} {d = d} {e = e} {reads = reads} (Ok c) (Ok more) goes served =
    let same = goes.0.0 in
    record {
      told = subst (λ ending. HasTold ending s a b d e t) (sym same) served.told;
      end = subst (λ ending. ending ≡ All → IsAtEnd b) (sym same) served.end;
      err = tt;
      ended = subst (λ ending. ending ≡ All → has_ended reads ≡ true) (sym same) served.ended;
      read_ends = subst (λ ending. ending ≡ All → has_read_failed reads ≡ false) (sym same) served.read_ends;
      write_ends = λ h. absurd (cc (served.write_ends h));
      read_failed = subst (λ ending. ending ≡ ReadFailed → has_read_failed reads ≡ true) (sym same) served.read_failed;
      no_more_reads = subst (λ ending. ending ≡ NoMoreReads → reads_made reads ≡ 2 ^ 32) (sym same) served.no_more_reads;
      write_failed = λ h. absurd (cc h);
    }

pub one_more : (t : Fan) (before after : Result Collected Stop) (count more : ℕ) → GoesOn t before after → more ≡ count + 1 → IfOk before (λ c. length c.parts.items ≡ count) → IfOk after (λ c. length c.parts.items ≡ more)
one_more t (Err stop) after count more same next counted = subst (λ r. IfOk r (λ c. length c.parts.items ≡ more)) (sym same) tt
one_more t (Ok c) (Err stop) count more goes next counted = tt
one_more t (Ok c) (Ok d) count more goes next counted = goes.0.1 ∙ (ap (λ (n : ℕ). n + 1) counted ∙ sym next)

pub all_parts : (t : Fan) (before after : Result Collected Stop) → GoesOn t before after → IfOk before (λ c. AreParts t c.parts.items) → IfOk after (λ c. AreParts t c.parts.items)
all_parts t (Err stop) after same all = subst (λ r. IfOk r (λ c. AreParts t c.parts.items)) (sym same) tt
all_parts t (Ok c) (Err stop) goes all = tt
all_parts t (Ok c) (Ok d) goes all = goes.0.2 all

-- ---- how a run ends

pub not_opened : (tie : Tie) (readers : ℕ) (a d : Known) (reads : ReadLog) (writes : WriteLog) → reads_made reads ≡ 0 → has_write_failed writes ≡ false → IsFanOutcome tie readers a a d d reads writes (Err Runtime)
not_opened tie readers a d reads writes none fresh = record {
  run = record {
    ok = tt;
    end = tt;
    reading = λ k. absurd (cc k);
    reads_end = λ k. absurd (cc k);
    writing = λ k. absurd (cc k);
    runtime = λ k. stopped tie readers (fan_start tie) (fan_start tie) a a d d refl (told_nothing (fan_start tie) a d);
  };
  cause = record {
    bound = omega (arith, none);
    ended = tt;
    read_failed = λ k. absurd (cc k);
    no_more_reads = λ k. absurd (cc k);
    write_failed = λ k. absurd (cc k);
    write_ends = λ h. absurd (cc (h, fresh));
  };
  read_ends = tt;
}

stopped_as : (tie : Tie) (readers : ℕ) {s t : Fan} {a b d e : Known} {reads : ReadLog} {writes : WriteLog} (stop : Stop)
    → s ≡ fan_start tie → IsServed s a b d e reads writes t (Err stop) → reads_made reads ≤ 2 ^ 32 → IsFanOutcome tie readers a b d e reads writes (Err (fault_of stop))
stopped_as tie readers {s = s} {t = t} {a = a} {b = b} {d = d} {e = e} WriteFailed start served bound = record {
  run = record {
    ok = tt;
    end = tt;
    reading = λ k. absurd (cc k);
    reads_end = λ k. absurd (cc k);
    writing = λ k. stopped tie readers s t a b d e start served.err;
    runtime = λ k. absurd (cc k);
  };
  cause = record {
    bound = bound;
    ended = tt;
    read_failed = λ k. absurd (cc k);
    no_more_reads = λ k. absurd (cc k);
    write_failed = λ k. served.write_failed refl;
    write_ends = λ h. refl;
  };
  read_ends = tt;
}
stopped_as tie readers {s = s} {t = t} {a = a} {b = b} {d = d} {e = e} NoRuntime start served bound = record {
  run = record {
    ok = tt;
    end = tt;
    reading = λ k. absurd (cc k);
    reads_end = λ k. absurd (cc k);
    writing = λ k. absurd (cc k);
    runtime = λ k. stopped tie readers s t a b d e start served.err;
  };
  cause = record {
    bound = bound;
    ended = tt;
    read_failed = λ k. absurd (cc k);
    no_more_reads = λ k. absurd (cc k);
    write_failed = λ k. absurd (cc k);
    write_ends = λ h. absurd (cc (served.write_ends h));
  };
  read_ends = tt;
}

pub stopped_run : (tie : Tie) (readers : ℕ) {s t : Fan} {a b d e : Known} {reads : ReadLog} {writes : WriteLog} (stop : Stop) (fault : Fault)
    → s ≡ fan_start tie → fault ≡ fault_of stop → IsServed s a b d e reads writes t (Err stop) → reads_made reads ≤ 2 ^ 32 → IsFanOutcome tie readers a b d e reads writes (Err fault)
stopped_run tie readers {a = a} {b = b} {d = d} {e = e} {reads = reads} {writes = writes} stop fault start is served bound =
    subst (λ f. IsFanOutcome tie readers a b d e reads writes (Err f)) (sym is) (stopped_as tie readers stop start served bound)

-- what a run owes of the text, and how its input ended
abbrev Owes : Tie → ℕ → Known → Known → Known → Known → Ending → Result (Unit {0}) Fault → Type 0
Owes tie readers a b c e ending result =
    OnOk result (Moves a b c e (λ bytes out. IsFannedOf tie (all_lines bytes) readers out))
    × (IsErrOf result Reading → Moves a b c e (λ bytes out. IsFannedOf tie (complete_lines bytes) readers out))
    × (IsErrOf result Reads → Moves a b c e (λ bytes out. IsFannedOf tie (complete_lines bytes) readers out))
    × (IsErrOf result Writing → Moves a b c e (λ bytes out. IsCutShort tie bytes readers out))
    × (IsErrOf result Runtime → ⊥)
    × OnOk result (ending ≡ All)
    × (IsErrOf result Reading → ending ≡ ReadFailed)
    × (IsErrOf result Reads → ending ≡ NoMoreReads)

owed : (tie : Tie) (readers : ℕ) (a b c e : Known) (ending : Ending) → Moves a b c e (λ bytes out. IsFannedOf tie (lines_told ending bytes) readers out) → Owes tie readers a b c e ending (ended_as ending)
owed tie readers a b c e All h = (h, (λ k. absurd (cc k)), (λ k. absurd (cc k)), (λ k. absurd (cc k)), (λ k. absurd (cc k)), refl, (λ k. absurd (cc k)), (λ k. absurd (cc k)))
owed tie readers a b c e ReadFailed h = (tt, (λ k. h), (λ k. absurd (cc k)), (λ k. absurd (cc k)), (λ k. absurd (cc k)), tt, (λ k. refl), (λ k. absurd (cc k)))
owed tie readers a b c e NoMoreReads h = (tt, (λ k. absurd (cc k)), (λ k. h), (λ k. absurd (cc k)), (λ k. absurd (cc k)), tt, (λ k. absurd (cc k)), (λ k. refl))

owed_cut : (tie : Tie) (readers : ℕ) (a b c e : Known) (ending : Ending) → Moves a b c e (λ bytes out. IsCutShort tie bytes readers out) → Owes tie readers a b c e ending (Err Writing)
owed_cut tie readers a b c e ending h = (tt, (λ k. absurd (cc k)), (λ k. absurd (cc k)), (λ k. h), (λ k. absurd (cc k)), tt, (λ k. absurd (cc k)), (λ k. absurd (cc k)))

pub ended : (tie : Tie) (readers : ℕ) {s t : Fan} {a b d e f : Known} {reads : ReadLog} {before after : WriteLog} (c : Collected) (result : Result (Unit {0}) Fault)
    → s ≡ fan_start tie → IsServed s a b d e reads before t (Ok c) → AreParts t c.parts.items → length c.parts.items ≡ readers → HasWritten c.ending result e f (all_texts 0 c.parts.items)
    → (has_write_failed after ≡ true → result ≡ Err Writing) → (IsErrOf result Writing → has_write_failed after ≡ true) → reads_made reads ≤ 2 ^ 32
    → IsFanOutcome tie readers a b d f reads after result
ended tie readers {s = s} {t = t} {a = a} {b = b} {d = d} {e = e} {f = f} c result start served all count written write_ends write_failed bound =
    let owes : Owes tie readers a b d f c.ending result = elim written [
      | inl w ↦ subst (Owes tie readers a b d f c.ending) (sym w.0) (owed_cut tie readers a b d f c.ending (part_written tie readers s t start c.parts.items all count c.ending a b d e f served.told w.1))
      | inr w ↦ subst (Owes tie readers a b d f c.ending) (sym w.0) (owed tie readers a b d f c.ending (all_written tie readers s t start c.parts.items all count c.ending a b d e f served.told w.1))
    ] in
    record {
      run = record {
        ok = owes.0;
        end = on_ok_weaker result served.end owes.5;
        reading = owes.1;
        reads_end = owes.2;
        writing = owes.3;
        runtime = λ k. absurd (owes.4 k);
      };
      cause = record {
        bound = bound;
        ended = on_ok_weaker result served.ended owes.5;
        read_failed = λ k. served.read_failed (owes.6 k);
        no_more_reads = λ k. served.no_more_reads (owes.7 k);
        write_failed = write_failed;
        write_ends = write_ends;
      };
      read_ends = on_ok_weaker result served.read_ends owes.5;
    }
