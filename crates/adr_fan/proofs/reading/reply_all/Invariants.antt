use mathlib.Core.List.{IsPrefix}
use Rattle.adr_fan.specs.Parts.{AreTrue}
use Rattle.adr_fan.proofs.reading.reply_all.Given as goal

abbrev pub invariant-queries : goal.invariant-queries
invariant-queries g l = IsPrefix l.fn.reader.seen l.part.reader.seen × AreTrue g.J.Naming.tie l.part.reader.seen l.part.replies.items
