use Rattle.adr_book.proofs.judging.least_of_removal.Goals as goal

pub returns : goal.returns
returns c =
    c.whole.ensures _ ((tt, tt), tt)
    (c.both-2.ensures _ _ (tt, tt) tt (c.both.ensures _ _ tt tt c.absence_fault-absence.ensures c.use_fault-named.ensures)
    c.removal_room_fault-room.ensures)
