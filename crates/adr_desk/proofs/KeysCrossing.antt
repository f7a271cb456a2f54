-- The keys of whom events are for may be shared by threads.
use denote.Param.Send.{IsSync, sendable}
use Rattle.std.proofs.Crossing as std
use Rattle.adr_keys.specs.contracts.key.Key as Key
use Rattle.adr_keys.specs.contracts.row.Row as Row
use Rattle.adr_keys.specs.contracts.index.KeyIndex as Index
use Rattle.adr_audience.specs.contracts.audiences.Audiences as Audiences
use Rattle.adr_value.proofs.Crossing.{name_sync, text_sync}

key_sync : IsSync Key.the_row
key_sync = search (sendable, std.crosses, text_sync, name_sync) depth 60 fits 60000

row_sync : IsSync Row.the_row
row_sync = search (sendable, std.crosses, key_sync) depth 60 fits 60000

index_sync : IsSync Index.the_row
index_sync = search (sendable, std.crosses, row_sync, key_sync) depth 60 fits 60000

pub audiences_sync : IsSync Audiences.the_row
audiences_sync = search (sendable, std.crosses, index_sync) depth 60 fits 60000
