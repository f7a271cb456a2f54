use Rattle.std.proofs.Common.{rules}
use Rattle.adr_board.proofs.Opened.{IsOpened, each_from_start}
use Rattle.adr_board.proofs.run.replay_as.Goals as goal

pub returns-in-Ok-clause-run : goal.returns-in-Ok-clause-run
returns-in-Ok-clause-run g c =
    let opened = c.in-Ok.ensures in
    let begin : IsOpened c.in-Ok.editor c.in-Ok.readers.items c.args.tie c.args.readers =
    record { rule = opened.tie; base = opened.base; objects = opened.objects; pending = opened.pending; published = opened.published; count = search rules; newcomers = opened.newcomers } in
    let taken = c.take_steps-shown in
    each_from_start taken.result c.in-Ok.editor taken.new.editor c.in-Ok.readers.items taken.new.readers.items c.args.tie c.args.readers c.args.steps.items begin taken.ensures.steps
