-- A group with its timelines may go to another thread, and be shared by threads.
use denote.Param.Send.{IsSend, IsSync, sendable}
use Rattle.std.proofs.Crossing as std
use Rattle.adr_value.proofs.Crossing.{name_send, name_sync}
use Rattle.adr_shared.proofs.Crossing.{map_send, map_sync, shared_send, shared_sync}
use Rattle.adr_timeline.proofs.Crossing.{timeline_send, timeline_sync}
use Rattle.adr_group.specs.contracts.writes.Writes as Writes
use Rattle.adr_group.specs.contracts.type_name.TypeName as TypeName
use Rattle.adr_group.specs.contracts.timelines.Timelines as Timelines
use Rattle.adr_group.specs.contracts.group.Group as Group

pub writes_send : IsSend Writes.the_row
writes_send = search (sendable, std.crosses) depth 60 fits 60000

pub writes_sync : IsSync Writes.the_row
writes_sync = search (sendable, std.crosses) depth 60 fits 60000

pub type_name_send : IsSend TypeName.the_row
type_name_send = search (sendable, std.crosses, name_send) depth 60 fits 60000

pub type_name_sync : IsSync TypeName.the_row
type_name_sync = search (sendable, std.crosses, name_sync) depth 60 fits 60000

pub timelines_send : IsSend Timelines.the_row
timelines_send = search (sendable, std.crosses, map_send, type_name_send, type_name_sync, shared_send, shared_sync, timeline_send, timeline_sync) depth 60 fits 60000

pub timelines_sync : IsSync Timelines.the_row
timelines_sync = search (sendable, std.crosses, map_sync, type_name_send, type_name_sync, shared_send, shared_sync, timeline_send, timeline_sync) depth 60 fits 60000

pub group_send : IsSend Group.the_row
group_send = search (sendable, std.crosses, shared_send, writes_send, writes_sync, timelines_send) depth 60 fits 60000

pub group_sync : IsSync Group.the_row
group_sync = search (sendable, std.crosses, shared_sync, writes_send, writes_sync, timelines_sync) depth 60 fits 60000
