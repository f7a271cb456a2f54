-- Objects and edits may go to other threads, and be shared by them.
use denote.Param.Send.{IsSend, IsSync, sendable}
use Rattle.std.proofs.Crossing as std
use Rattle.adr_value.proofs.Crossing.{datum_send, datum_sync, name_send, name_sync, text_send, text_sync}
use Rattle.adr_shared.proofs.Crossing.{shared_send, shared_sync}
use Rattle.adr_object.specs.contracts.id.Id as Id
use Rattle.adr_object.specs.contracts.event.Target as Target
use Rattle.adr_object.specs.contracts.event.Payload as Payload
use Rattle.adr_object.specs.contracts.event.Interval as Interval
use Rattle.adr_object.specs.contracts.event.Event as Event
use Rattle.adr_object.specs.contracts.party.Program as Program
use Rattle.adr_object.specs.contracts.party.Ven as Ven
use Rattle.adr_object.specs.contracts.party.Resource as Resource
use Rattle.adr_object.specs.contracts.object.Edit as Edit

pub id_send : IsSend Id.the_row
id_send = search (sendable, std.crosses, text_send) depth 60 fits 60000

pub id_sync : IsSync Id.the_row
id_sync = search (sendable, std.crosses, text_sync) depth 60 fits 60000

pub target_send : IsSend Target.the_row
target_send = search (sendable, std.crosses, name_send, datum_send) depth 60 fits 60000

pub target_sync : IsSync Target.the_row
target_sync = search (sendable, std.crosses, name_sync, datum_sync) depth 60 fits 60000

pub payload_send : IsSend Payload.the_row
payload_send = search (sendable, std.crosses, name_send, datum_send) depth 60 fits 60000

pub payload_sync : IsSync Payload.the_row
payload_sync = search (sendable, std.crosses, name_sync, datum_sync) depth 60 fits 60000

pub interval_send : IsSend Interval.the_row
interval_send = search (sendable, std.crosses, shared_send, payload_send) depth 60 fits 60000

pub interval_sync : IsSync Interval.the_row
interval_sync = search (sendable, std.crosses, shared_sync, payload_sync) depth 60 fits 60000

pub event_send : IsSend Event.the_row
event_send = search (sendable, std.crosses, id_send, text_send, target_send, interval_send) depth 60 fits 60000

pub event_sync : IsSync Event.the_row
event_sync = search (sendable, std.crosses, id_sync, text_sync, target_sync, interval_sync) depth 60 fits 60000

pub program_send : IsSend Program.the_row
program_send = search (sendable, std.crosses, id_send, text_send, target_send) depth 60 fits 60000

pub program_sync : IsSync Program.the_row
program_sync = search (sendable, std.crosses, id_sync, text_sync, target_sync) depth 60 fits 60000

pub ven_send : IsSend Ven.the_row
ven_send = search (sendable, std.crosses, id_send, text_send, target_send) depth 60 fits 60000

pub ven_sync : IsSync Ven.the_row
ven_sync = search (sendable, std.crosses, id_sync, text_sync, target_sync) depth 60 fits 60000

pub resource_send : IsSend Resource.the_row
resource_send = search (sendable, std.crosses, id_send, text_send, target_send) depth 60 fits 60000

pub resource_sync : IsSync Resource.the_row
resource_sync = search (sendable, std.crosses, id_sync, text_sync, target_sync) depth 60 fits 60000

pub edit_send : IsSend Edit.the_row
edit_send = search (sendable, std.crosses, shared_send, program_send, program_sync, event_send, event_sync, ven_send, ven_sync, resource_send, resource_sync, id_send) depth 60 fits 60000

pub edit_sync : IsSync Edit.the_row
edit_sync = search (sendable, std.crosses, shared_sync, program_send, program_sync, event_send, event_sync, ven_send, ven_sync, resource_send, resource_sync, id_sync) depth 60 fits 60000
