-- Texts, names and values may go to other threads, and be shared by them.
use denote.Param.Send.{IsSend, IsSync, sendable}
use Rattle.std.proofs.Crossing as std
use Rattle.std.proofs.MapsCrossing as maps
use Rattle.adr_value.specs.contracts.text.Text as Text
use Rattle.adr_value.specs.contracts.text.Name as Name
use Rattle.adr_value.specs.contracts.datum.Datum as Datum

pub text_send : IsSend Text.the_row
text_send = search (sendable, std.crosses, maps.crosses) depth 60 fits 60000

pub text_sync : IsSync Text.the_row
text_sync = search (sendable, std.crosses, maps.crosses) depth 60 fits 60000

pub name_send : IsSend Name.the_row
name_send = search (sendable, std.crosses, text_send) depth 60 fits 60000

pub name_sync : IsSync Name.the_row
name_sync = search (sendable, std.crosses, text_sync) depth 60 fits 60000

pub datum_send : IsSend Datum.the_row
datum_send = search (sendable, std.crosses, text_send) depth 60 fits 60000

pub datum_sync : IsSync Datum.the_row
datum_sync = search (sendable, std.crosses, text_sync) depth 60 fits 60000
