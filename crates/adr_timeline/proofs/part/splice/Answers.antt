use Rattle.std.proofs.lemmas.Result.{on_ok_weaker}
use Rattle.adr_timeline.specs.Chunks.{listed}
use Rattle.adr_timeline.proofs.Pieces.{splice_made}
use Rattle.adr_timeline.proofs.part.splice.Goals as goal

pub returns-clause-canonical : goal.returns-clause-canonical
returns-clause-canonical c = on_ok_weaker c.join_after.result (λ made. (splice_made (listed c.args.outer.now) (listed c.args.inner.now) c.args.window c.args.line.now c.join_part.new.line c.join_part-2.new.line c.requires.outer c.requires.inner c.requires.empty c.in_ok-join_part.ensures c.in_ok-join_part-2.ensures c.join_after.new.line made).canonical) c.join_after.ensures

pub returns-clause-shows : goal.returns-clause-shows
returns-clause-shows c = on_ok_weaker c.join_after.result (λ made. (splice_made (listed c.args.outer.now) (listed c.args.inner.now) c.args.window c.args.line.now c.join_part.new.line c.join_part-2.new.line c.requires.outer c.requires.inner c.requires.empty c.in_ok-join_part.ensures c.in_ok-join_part-2.ensures c.join_after.new.line made).shown) c.join_after.ensures
