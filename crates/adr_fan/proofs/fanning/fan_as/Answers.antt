use Rattle.std.proofs.Common.{◌≡◌, length, ◌∙◌}
use Rattle.adr_resolver.specs.Fan.{fan_start}
use Rattle.adr_fan.proofs.Runs.{not_opened, stopped_run, ended}
use Rattle.adr_fan.proofs.fanning.fan_as.Goals as goal

pub returns-in_default : goal.returns-in_default
returns-in_default g c =
    not_opened c.args.tie c.args.readers (g.I.Read.remaining c.args.reader.now) (g.W.Write.contents c.args.writer.now) c.args.logs.now.reads c.args.logs.now.writes c.requires.logs.0 c.requires.logs.2

pub returns-in-Err : goal.returns-in-Err
returns-in-Err g c =
    let start : c.in-Some.desk ≡ fan_start c.args.tie = cc (c.in-Some.ensures.0, c.in-Some.desk-is) in
    stopped_run c.args.tie c.args.readers c.in-Err.stop c.fault.result start c.fault.ensures c.in-Err.ensures.served c.level-collected.ensures.bound

pub returns-in-Ok : goal.returns-in-Ok
returns-in-Ok g c =
    let start : c.in-Some.desk ≡ fan_start c.args.tie = cc (c.in-Some.ensures.0, c.in-Some.desk-is) in
    let count : length c.in-Ok.collected.parts.items ≡ c.args.readers = c.in-Ok.ensures.count ∙ cc (c.in-Some.ensures.1, c.in-Some.seats-is) in
    ended c.args.tie c.args.readers c.in-Ok.collected c.write_all.result start c.in-Ok.ensures.served c.in-Ok.ensures.parts count c.write_all.ensures.written c.write_all.ensures.write_ends c.write_all.ensures.write_failed c.level-collected.ensures.bound
