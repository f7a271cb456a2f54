use Rattle.adr_book.proofs.judging.least_of_change.Goals as goal

pub returns : goal.returns
returns c =
    c.whole.ensures _ (((tt, tt), tt), tt)
    (c.both-3.ensures _ _ ((tt, tt), tt) tt
    (c.both-2.ensures _ _ (tt, tt) tt (c.both.ensures _ _ tt tt c.requires c.missing_fault-id.ensures) c.reference_fault-reference.ensures)
    c.change_room_fault-room.ensures)
