-- Editors and readers may go to another thread.
use denote.Param.Send.{IsSend, sendable}
use Rattle.adr_board.proofs.Crossing.{publisher_send, snapshot_send, snapshot_sync}
use Rattle.adr_resolver.proofs.Crossing.{bodies_send}
use Rattle.adr_embed.specs.contracts.editing.Editing as Editing
use Rattle.adr_embed.specs.contracts.reading.Reading as Reading
use Rattle.std.proofs.Crossing as std

pub editing_send : IsSend Editing.the_row
editing_send = search (sendable, std.crosses, publisher_send, bodies_send) depth 60 fits 60000

pub reading_send : IsSend Reading.the_row
reading_send = search (sendable, std.crosses, snapshot_send, snapshot_sync) depth 60 fits 60000
