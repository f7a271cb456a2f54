use Rattle.std.proofs.Common.{◌⊎◌, inl, inr}
use Rattle.std.proofs.lemmas.Result.{on_ok_weaker}
use Rattle.adr_script.proofs.TextLemmas.{moves_weaker}
use Rattle.adr_resolver.proofs.Journals.{told_text, told_text_in_part}
use Rattle.adr_resolver.proofs.program.run_by.Goals as goal

-- a machine that never halts did nothing
nothing_done : {A B C : Type 0} → (A × B × C) ⊎ ⊥ → A × B
nothing_done (inl h) = (h.0, h.1)
nothing_done (inr h) = absurd h

pub returns-clause-run : goal.returns-clause-run
returns-clause-run g c =
    let served = c.serve-served.ensures in
    record {
      ok = on_ok_weaker c.serve-served.result (moves_weaker _ _ _ _ _ _ (λ bytes out h. told_text _ _ _ _ out c.new-machine.ensures h)) served.ok;
      end = served.end;
      reading = λ failed. moves_weaker _ _ _ _ _ _ (λ bytes out h. told_text _ _ _ _ out c.new-machine.ensures h) (served.reading failed);
      reads = λ failed. moves_weaker _ _ _ _ _ _ (λ bytes out h. told_text _ _ _ _ out c.new-machine.ensures h) (served.reads failed);
      writing = λ failed. moves_weaker _ _ _ _ _ _ (λ bytes out h. told_text_in_part _ _ _ _ out c.new-machine.ensures h) (served.writing failed);
      runtime = λ failed. nothing_done (served.start failed);
    }

pub returns-clause-cause : goal.returns-clause-cause
returns-clause-cause g c =
    let served = c.serve-served.ensures in
    record {
      bound = served.bound;
      ended = served.ended;
      read_failed = served.read_failed;
      no_more_reads = served.no_more_reads;
      write_failed = served.write_failed;
      write_ends = served.write_ends;
    }
