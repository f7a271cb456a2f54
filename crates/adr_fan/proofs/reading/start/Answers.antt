use denote.Exit.{no}
use denote.Param.Send.{arg_send, param_send}
use Rattle.std.proofs.Crossing as std
use Rattle.adr_board.proofs.Crossing.{reader_send}
use Rattle.adr_fan.specs.contracts.mailbox.Mailbox as Mailbox
use Rattle.adr_fan.proofs.Crossing.{taken_send, mailbox_send, mailbox_sync, part_send}
use Rattle.adr_fan.proofs.reading.start.Goals as goal

pub spawn_with-requires-send-F : goal.spawn_with-requires-send-F
spawn_with-requires-send-F g c κs within =
    let bounds = c.type_bounds in
    let gate = std.Arc-send _ bounds.send-G bounds.sync-G in
    let mailbox = std.Arc-send Mailbox.the_row mailbox_send mailbox_sync in
    let reader = reader_send _ g.J.Naming bounds.send-J in
    param_send 2 _ (arg_send _ no _ (taken_send _ bounds.send-R std.send gate mailbox reader))

pub spawn_with-requires-send-T : goal.spawn_with-requires-send-T
spawn_with-requires-send-T g c κs within = param_send 3 _ (arg_send _ no _ (part_send _ g.J.Naming c.type_bounds.send-J))
