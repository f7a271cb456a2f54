use Rattle.std.proofs.lemmas.Result.{on_ok_weaker}
use Rattle.adr_timeline.specs.Chunks.{listed}
use Rattle.adr_timeline.proofs.Pieces.{clipped_as}
use Rattle.adr_timeline.proofs.part.clip.Goals as goal

pub returns-clause-canonical : goal.returns-clause-canonical
returns-clause-canonical c = on_ok_weaker c.join_part.result (λ made. (clipped_as (listed c.args.shown.now) c.args.line.now c.join_part.new.line c.args.window c.requires.empty c.requires.canonical made).canonical) c.join_part.ensures

pub returns-clause-shows : goal.returns-clause-shows
returns-clause-shows c = on_ok_weaker c.join_part.result (λ made. (clipped_as (listed c.args.shown.now) c.args.line.now c.join_part.new.line c.args.window c.requires.empty c.requires.canonical made).shown) c.join_part.ensures
