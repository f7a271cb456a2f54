-- Objects in tables may go to other threads, and be shared by them.
use denote.Param.Send.{IsSend, IsSync, sendable}
use Rattle.std.proofs.Crossing as std
use Rattle.adr_shared.proofs.Crossing.{map_send, map_sync, shared_send, shared_sync}
use Rattle.adr_object.proofs.Crossing.{event_send, event_sync, id_send, id_sync, program_send, program_sync, resource_send, resource_sync, ven_send, ven_sync}
use Rattle.adr_store.specs.contracts.tally.Tally as Tally
use Rattle.adr_store.specs.contracts.numbers.Numbers as Numbers
use Rattle.adr_store.specs.contracts.events.Events as Events
use Rattle.adr_store.specs.contracts.resources.Resources as Resources
use Rattle.adr_store.specs.contracts.store.Store as Store

pub events_send : IsSend Events.the_row
events_send = search (sendable, std.crosses, map_send, id_send, id_sync, shared_send, shared_sync, event_send, event_sync) depth 60 fits 60000

pub events_sync : IsSync Events.the_row
events_sync = search (sendable, std.crosses, map_sync, id_send, id_sync, shared_send, shared_sync, event_send, event_sync) depth 60 fits 60000

pub resources_send : IsSend Resources.the_row
resources_send = search (sendable, std.crosses, map_send, id_send, id_sync, shared_send, shared_sync, resource_send, resource_sync) depth 60 fits 60000

pub resources_sync : IsSync Resources.the_row
resources_sync = search (sendable, std.crosses, map_sync, id_send, id_sync, shared_send, shared_sync, resource_send, resource_sync) depth 60 fits 60000

pub store_send : IsSend Store.the_row
store_send = search (sendable, std.crosses, map_send, id_send, id_sync, shared_send, shared_sync, program_send, program_sync, ven_send, ven_sync, resources_send, events_send) depth 60 fits 60000

pub store_sync : IsSync Store.the_row
store_sync = search (sendable, std.crosses, map_sync, id_send, id_sync, shared_send, shared_sync, program_send, program_sync, ven_send, ven_sync, resources_sync, events_sync) depth 60 fits 60000
