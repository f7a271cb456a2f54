use Rattle.std.proofs.Common.{◌≡◌, drop}
use Rattle.adr_script.specs.Logs.{has_write_failed}
use Rattle.adr_fan.specs.Parts.{all_texts}
use Rattle.adr_fan.proofs.Fronts.{Wrote}
use Rattle.adr_fan.proofs.writing.write_parts.Given as goal

abbrev pub invariant-loop-reader : goal.invariant-loop-reader
invariant-loop-reader g l =
    Wrote (g.W.Write.contents l.initial.writer) (g.W.Write.contents l.writer) (all_texts 0 l.parts) (all_texts l.reader (drop l.reader l.parts))
    × (has_write_failed l.writes ≡ has_write_failed l.initial.writes)
