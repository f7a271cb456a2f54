use Rattle.std.proofs.Common.{rules}
use Rattle.adr_fan.proofs.Runs.{all_parts, goes_on, not_begun, one_more}
use Rattle.adr_fan.proofs.levels.+level.Goals as goal

pub returns-in_default-start_seat-clause-served : goal.returns-in_default-start_seat-clause-served
returns-in_default-start_seat-clause-served g t c =
    not_begun c.args.desk.now (g.I.Read.remaining c.args.reader.now) (g.W.Write.contents c.args.writer.now) c.args.logs.now.reads c.args.logs.now.writes c.requires.no_write

pub returns-clause-served : goal.returns-clause-served
returns-clause-served g t c = goes_on c.level-collected.result c.with_part.result c.with_part.ensures c.level-collected.ensures.served

pub returns-clause-count : goal.returns-clause-count
returns-clause-count g t c = one_more c.level-collected.new.desk c.level-collected.result c.with_part.result _ _ c.with_part.ensures (search rules) c.level-collected.ensures.count

pub returns-clause-parts : goal.returns-clause-parts
returns-clause-parts g t c = all_parts c.level-collected.new.desk c.level-collected.result c.with_part.result c.with_part.ensures c.level-collected.ensures.parts
