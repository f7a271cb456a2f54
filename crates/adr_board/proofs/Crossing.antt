-- Readers and publishers may go to other threads: what readers are shown may be shared by threads, and so may all that it is made of.
use mathlib.Core.List.{List, [], ◌∷◌}
use mir.Syntax.{Sym}
use denote.RattleType.{RattleType}
use denote.Param.Send.{IsSend, IsSync, AllSend, sendable}
use denote.Param.SendFields.{FieldsHave, as_row_send, declared_send}
use denote.Struct.Field.{row_field}
use denote.Struct.Tuple.{TupleAt, parts, type_at}
use Rattle.std.proofs.Crossing as std
use Rattle.adr_value.proofs.Crossing as value
use Rattle.adr_shared.proofs.Crossing.{map_send, map_sync, shared_send, shared_sync}
use Rattle.adr_book.proofs.Crossing.{book_send, book_sync}
use Rattle.adr_group.proofs.Crossing.{group_send, group_sync}
use Rattle.adr_seats.specs.contracts.seats.Seats as Seats
use Rattle.adr_schedule.specs.contracts.schedule.Schedule as Schedule
use Rattle.adr_schedule.specs.contracts.resolution.Resolution as Resolution
use Rattle.adr_keys.specs.contracts.row.Row as Row
use Rattle.adr_keys.specs.contracts.key.Key as Key
use Rattle.adr_keys.specs.contracts.sets.Sets as Sets
use Rattle.adr_keys.specs.contracts.index.KeyIndex as Keys
use Rattle.adr_audience.specs.contracts.audiences.Audiences as Audiences
use Rattle.adr_index.specs.contracts.index.Index as Index
use Rattle.adr_lines.specs.contracts.indexes.Indexes as Indexes
use Rattle.adr_desk.specs.contracts.desk.Desk as Desk
use Rattle.adr_board.specs.contracts.publisher.Publisher as Publisher
use Rattle.adr_board.specs.contracts.snapshot.Snapshot as Snapshot
use Rattle.logbook.proofs.tokens.Seen.TheSendSync as seen
use Rattle.left_right.proofs.part.Part.TheSendSync as part
use Rattle.atomic_table.proofs.shared.Seat.TheSendSync as seat
use Rattle.atomic_table.proofs.send_lease.SendLease.TheSendSync as lease
use Rattle.atomic_table.proofs.shared.Shared.TheSendSync as table
use Rattle.adr_board.specs.contracts.diary.Publication as Publication
use Rattle.std.specs.contracts.alloc.Global as Global
use Rattle.std.specs.contracts.collections.LinkedList as LinkedList
use Rattle.std.specs.contracts.impls.GlobalAllocator.TheImpl.{ghosts}
use Rattle.left_right.specs.contracts.reader.Reader as LeftRight
use Rattle.adr_board.specs.declared.rule.Naming.{Ghosts as Names}
use Rattle.adr_board.specs.contracts.rule.OneList as OneList
use Rattle.adr_board.specs.contracts.rule.OneListProtocolShownPublicationView.TheImpl as ruled
use Rattle.adr_board.specs.contracts.shown.ShownPublication as Shown
use Rattle.adr_board.specs.contracts.board.Told as Told
use Rattle.adr_board.specs.contracts.board.Reader as Reader

parts_send : (Ts : List RattleType) → AllSend Ts → FieldsHave IsSend (parts Ts)
parts_send [] s = tt
parts_send (T ∷ Ts) s = (as_row_send (row_field T) s.0, parts_send Ts s.1)

-- a closure may go to another thread where all that it captures may
pub captures_send : (ν : Sym) (Ts : List RattleType) → AllSend Ts → IsSend (TupleAt ν Ts)
captures_send ν Ts s = declared_send (type_at ν Ts) (parts_send Ts s)

seats_send : IsSend Seats.the_row
seats_send = search (sendable, std.crosses) depth 60 fits 60000

seats_sync : IsSync Seats.the_row
seats_sync = search (sendable, std.crosses) depth 60 fits 60000

schedule_send : IsSend Schedule.the_row
schedule_send = search (sendable, std.crosses, seats_send, map_send, group_send, group_sync) depth 60 fits 60000

schedule_sync : IsSync Schedule.the_row
schedule_sync = search (sendable, std.crosses, seats_sync, map_sync, group_send, group_sync) depth 60 fits 60000

resolution_send : IsSend Resolution.the_row
resolution_send = search (sendable, std.crosses, book_send, shared_send, schedule_send, schedule_sync) depth 60 fits 60000

resolution_sync : IsSync Resolution.the_row
resolution_sync = search (sendable, std.crosses, book_sync, shared_sync, schedule_send, schedule_sync) depth 60 fits 60000

pub snapshot_send : IsSend Snapshot.the_row
snapshot_send = search (sendable, std.crosses, resolution_send) depth 60 fits 60000

pub snapshot_sync : IsSync Snapshot.the_row
snapshot_sync = search (sendable, std.crosses, resolution_sync) depth 60 fits 60000

-- so may a publisher, with all that its desk is made of

key_send : IsSend Key.the_row
key_send = search (sendable, std.crosses, value.text_send, value.name_send) depth 60 fits 60000

row_send : IsSend Row.the_row
row_send = search (sendable, std.crosses, key_send) depth 60 fits 60000

sets_send : IsSend Sets.the_row
sets_send = search (sendable, std.crosses, key_send) depth 60 fits 60000

keys_send : IsSend Keys.the_row
keys_send = search (sendable, std.crosses, row_send, sets_send) depth 60 fits 60000

audiences_send : IsSend Audiences.the_row
audiences_send = search (sendable, std.crosses, keys_send) depth 60 fits 60000

index_send : IsSend Index.the_row
index_send = search (sendable, std.crosses) depth 60 fits 60000

indexes_send : IsSend Indexes.the_row
indexes_send = search (sendable, std.crosses, index_send) depth 60 fits 60000

desk_send : IsSend Desk.the_row
desk_send = search (sendable, std.crosses, resolution_send, audiences_send, indexes_send) depth 60 fits 60000

pub publisher_send : IsSend Publisher.the_row
publisher_send = search (sendable, std.crosses, desk_send, snapshot_send, snapshot_sync) depth 60 fits 60000

shown_sync : IsSync Shown.the_row
shown_sync = search (sendable, std.crosses, snapshot_send, snapshot_sync, seen.the_sync) depth 60 fits 60000

-- a reader may go to another thread, and what was told of may too
module _ (J : RattleType) (g : Names J.Denot) (s : IsSend J) where
  pub told_send : IsSend (Told.the_row J g)
  told_send = search (sendable, std.crosses, seen.the_send) depth 60 fits 60000

  raw_send : IsSend (LeftRight.the_field Shown.the_row (LinkedList.the_row Publication.the_row Global.the_row ghosts) (OneList.the_row J) Global.the_row (ruled.ghosts J g ruled.no_dict) ghosts).row
  raw_send = search (sendable, std.crosses, shown_sync, part.the_send, seat.the_send, lease.the_send, lease.the_sync, table.the_send, table.the_sync, std.send, std.sync) depth 60 fits 60000

  pub reader_send : IsSend (Reader.the_row J g)
  reader_send = search (sendable, std.crosses, seen.the_send, told_send, raw_send, snapshot_send, snapshot_sync) depth 60 fits 60000
