use Rattle.std.proofs.Common.{◌≡◌, []}
use Rattle.std.specs.Io.KnownBytes.{Appends}
use Rattle.adr_script.specs.Logs.{has_write_failed}
use Rattle.adr_script.proofs.log.WriteLog.write.Given as goal

-- the interrupted tries took nothing
abbrev pub invariant-loop : goal.invariant-loop
invariant-loop g l = record {
  unfailed : has_write_failed l.self ≡ has_write_failed l.initial.self;
  kept : Appends (g.W.Write.contents l.initial.writer) (g.W.Write.contents l.writer) [];
}
