-- A reader of bodies may go to another thread.
use denote.Param.Send.{IsSend, sendable}
use Rattle.adr_read.specs.contracts.body_reader.BodyReader as BodyReader
use Rattle.std.proofs.Crossing as std

pub bodies_send : IsSend BodyReader.the_row
bodies_send = search (sendable, std.crosses) depth 60 fits 60000
