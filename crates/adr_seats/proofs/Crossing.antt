-- Seats may go to another thread, and be shared by threads.
use denote.Param.Send.{IsSend, IsSync, sendable}
use Rattle.std.proofs.Crossing as std
use Rattle.adr_seats.specs.contracts.seats.Seats as Seats

pub seats_send : IsSend Seats.the_row
seats_send = search (sendable, std.crosses) depth 60 fits 60000

pub seats_sync : IsSync Seats.the_row
seats_sync = search (sendable, std.crosses) depth 60 fits 60000
