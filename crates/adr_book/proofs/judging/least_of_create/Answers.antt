use Rattle.adr_book.proofs.judging.least_of_create.Goals as goal

pub returns : goal.returns
returns c =
    c.whole.ensures _ (((tt, tt), tt), tt)
    (c.both-3.ensures _ _ ((tt, tt), tt) tt
    (c.both-2.ensures _ _ (tt, tt) tt (c.both.ensures _ _ tt tt c.requires c.exists_fault-id.ensures) c.reference_fault-reference.ensures)
    c.creation_room_fault-room.ensures)
