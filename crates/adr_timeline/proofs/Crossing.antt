-- A timeline may go to another thread, and be shared by threads.
use denote.Param.Send.{IsSend, IsSync, sendable}
use Rattle.std.proofs.Crossing as std
use Rattle.adr_timeline.specs.contracts.chunk.Chunk as Chunk
use Rattle.adr_timeline.specs.contracts.timeline.Timeline as Timeline

pub chunk_send : IsSend Chunk.the_row
chunk_send = search (sendable, std.crosses) depth 60 fits 60000

pub chunk_sync : IsSync Chunk.the_row
chunk_sync = search (sendable, std.crosses) depth 60 fits 60000

pub timeline_send : IsSend Timeline.the_row
timeline_send = search (sendable, std.crosses, chunk_send) depth 60 fits 60000

pub timeline_sync : IsSync Timeline.the_row
timeline_sync = search (sendable, std.crosses, chunk_sync) depth 60 fits 60000
