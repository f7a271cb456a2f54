-- How a run ends that can't begin, or whose text is told in other words.
use Rattle.std.proofs.Common.{ℕ, List, ◌++◌, Option, arith}
use Rattle.std.proofs.KnownBytes.{Keeps-refl}
use Rattle.std.proofs.lemmas.Result.{on_ok_weaker}
use Rattle.std.specs.Prelude.{Result, Err}
use Rattle.adr_script.specs.declared.fault.Fault.{Fault}
use Rattle.adr_script.specs.declared.fault.Fault.TheVariants.{Runtime}
use Rattle.adr_script.specs.declared.log.Logs.{Logs}
use Rattle.adr_script.specs.Text.{IsText}
use Rattle.adr_script.proofs.TextLemmas.{moves_weaker}
use Rattle.adr_resolver.specs.Outcome.{AreNew, IsCaused, IsRun}

-- nothing was read or written
pub not_begun : {S : Type 0} (reply : S → List ℕ → List ℕ) (next : S → List ℕ → S) (s : S) (left held : Option (List ℕ)) → IsRun reply next s left left held held (Err Runtime)
not_begun reply next s left held = record {
  ok = tt;
  end = tt;
  reading = λ k. absurd (cc k);
  reads = λ k. absurd (cc k);
  writing = λ k. absurd (cc k);
  runtime = λ k. (Keeps-refl left, Keeps-refl held);
}

pub nothing_met : (logs : Logs) → AreNew logs → IsCaused logs.reads logs.writes (Err Runtime)
nothing_met logs new = record {
  bound = omega (arith, new.0);
  ended = tt;
  read_failed = λ k. absurd (cc k);
  no_more_reads = λ k. absurd (cc k);
  write_failed = λ k. absurd (cc k);
  write_ends = λ h. absurd (cc (h, new.2));
}

-- what is a text of the one machine is one of the other
pub told_otherwise : {S T : Type 0} (reply : S → List ℕ → List ℕ) (next : S → List ℕ → S) (s : S) (other : T → List ℕ → List ℕ) (onward : T → List ℕ → T) (t : T)
    (left_old left_new held_old held_new : Option (List ℕ)) (result : Result (Unit {0}) Fault)
    → ((lines : List (List ℕ)) (out : List ℕ) → IsText reply next s lines out → IsText other onward t lines out)
    → IsRun reply next s left_old left_new held_old held_new result → IsRun other onward t left_old left_new held_old held_new result
told_otherwise reply next s other onward t left_old left_new held_old held_new result same run = record {
  ok = on_ok_weaker result (moves_weaker _ _ _ _ _ _ (λ bytes out h. same _ out h)) run.ok;
  end = run.end;
  reading = λ failed. moves_weaker _ _ _ _ _ _ (λ bytes out h. same _ out h) (run.reading failed);
  reads = λ failed. moves_weaker _ _ _ _ _ _ (λ bytes out h. same _ out h) (run.reads failed);
  writing = λ failed. moves_weaker _ _ _ _ _ _ (λ bytes out h. (h.0, same _ (out ++ h.0) h.1)) (run.writing failed);
  runtime = run.runtime;
}
