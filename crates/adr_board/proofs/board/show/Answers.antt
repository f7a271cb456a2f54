use Rattle.std.proofs.Common.{drop}
use Rattle.left_right.specs.Sides.{view as known}
use Rattle.adr_board.specs.Rules.{MayFollow, showing}
use Rattle.adr_board.proofs.Steps.{adds, absorbed}
use Rattle.adr_board.proofs.board.show.Goals as goal

pub publish_as-requires : goal.publish_as-requires
publish_as-requires g c next is =
    let t = showing c.args.shown in
    let desk = c.append.new.self.desk in
    let may : MayFollow _ _ (known desk.place) (showing desk.shown.value) t = rw c.append.ensures.desk c.requires in
    adds _ _ _ _ desk.shown.value next t may (rw is (rw c.in-Ok.ensures.pending (absorbed (showing desk.shown.value) (drop c.args.writer.behind c.args.writer.log.items) c.args.shown)))
