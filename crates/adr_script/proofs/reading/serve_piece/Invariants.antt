use Rattle.std.proofs.Common.{◌≡◌, ◌++◌, ◌≤◌, ℕ, List, false, vec_capacity, length}
use Rattle.adr_script.specs.Begun.{Holds}
use Rattle.adr_script.specs.Lines.{complete_from, rest_from}
use Rattle.adr_script.specs.Logs.{has_write_failed}
use Rattle.adr_script.specs.Script.{Told}
use Rattle.adr_script.specs.Waiting.{Sends}
use Rattle.adr_script.proofs.reading.serve_piece.Given as goal

-- the lines of the piece's front are answered
abbrev pub invariant-loop-end : goal.invariant-loop-end
invariant-loop-end g l = record {
  room : 64 ≤ vec_capacity l.session.reply;
  fresh : has_write_failed l.writes ≡ false;
  told : (line : List ℕ) → Holds l.initial.session.begun line → (front : List ℕ) × (out : List ℕ) × (l.piece ≡ front ++ l.rest)
      × Holds l.session.begun (rest_from line front)
      × Sends (g.W.Write.contents l.initial.writer) (g.W.Write.contents l.writer) l.initial.session.waiting.bytes.items l.session.waiting.bytes.items out
      × Told g.M.Machine.answers l.initial.machine (complete_from line front) out l.machine;
}

abbrev pub decreases-loop-end : goal.decreases-loop-end
decreases-loop-end g l = length l.rest
