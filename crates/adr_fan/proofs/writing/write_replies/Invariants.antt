use Rattle.std.proofs.Common.{◌≡◌, drop}
use Rattle.adr_script.specs.Logs.{has_write_failed}
use Rattle.adr_fan.specs.Parts.{texts}
use Rattle.adr_fan.proofs.Fronts.{Wrote}
use Rattle.adr_fan.proofs.writing.write_replies.Given as goal

abbrev pub invariant-loop-reply : goal.invariant-loop-reply
invariant-loop-reply g l =
    Wrote (g.W.Write.contents l.initial.writer) (g.W.Write.contents l.writer) (texts l.replies) (texts (drop l.reply-index l.replies))
    × (has_write_failed l.writes ≡ has_write_failed l.initial.writes)
