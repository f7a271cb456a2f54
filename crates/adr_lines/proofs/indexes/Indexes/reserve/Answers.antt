use Rattle.adr_lines.specs.Indexes.{spare_under}
use Rattle.adr_lines.proofs.Turns.{room_for_all}
use Rattle.adr_lines.proofs.indexes.Indexes.reserve.Goals as goal

pub returns-clause-room : goal.returns-clause-room
returns-clause-room c k =
    room_for_all c.args.gone.now c.args.come.now k (spare_under c.reserve_types.new.self k) (spare_under c.reserve_types-2.new.self k)
    (c.in_ok-reserve_types.ensures.room k) (c.reserve_types-2.ensures.kept k) (c.in_ok-reserve_types-2.ensures.room k)
