use Rattle.std.proofs.Common.{◌≡◌, ◌≤◌, ℕ, List, [], false, vec_capacity}
use Rattle.std.specs.Io.KnownBytes.{Appends, Consumes}
use Rattle.adr_script.specs.Begun.{Holds}
use Rattle.adr_script.specs.Lines.{complete_from, rest_from}
use Rattle.adr_script.specs.Logs.{reads_made, has_read_failed, has_write_failed}
use Rattle.adr_script.specs.Script.{Told}
use Rattle.adr_script.proofs.reading.serve_reads.Given as goal

-- the lines that are complete so far are answered
abbrev pub invariant-loop : goal.invariant-loop
invariant-loop g l = record {
  made : reads_made l.reads ≡ l.counter;
  no_read : has_read_failed l.reads ≡ false;
  no_write : has_write_failed l.writes ≡ false;
  room : 64 ≤ vec_capacity l.session.reply;
  none : l.session.waiting.bytes.items ≡ [];
  told : (bytes : List ℕ) × (out : List ℕ)
      × Consumes (g.R.Read.remaining l.initial.reader) (g.R.Read.remaining l.reader) bytes
      × Appends (g.W.Write.contents l.initial.writer) (g.W.Write.contents l.writer) out
      × Holds l.session.begun (rest_from [] bytes)
      × Told g.M.Machine.answers l.initial.machine (complete_from [] bytes) out l.machine;
}
