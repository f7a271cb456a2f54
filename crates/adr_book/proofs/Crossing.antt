-- A book may go to another thread, and be shared by threads.
use denote.Param.Send.{IsSend, IsSync, sendable}
use Rattle.std.proofs.Crossing as std
use Rattle.adr_shared.proofs.Crossing.{list_send, list_sync, shared_send, shared_sync}
use Rattle.adr_object.proofs.Crossing.{edit_send, edit_sync}
use Rattle.adr_store.proofs.Crossing.{store_send, store_sync}
use Rattle.adr_book.specs.contracts.base.Base as Base
use Rattle.adr_book.specs.contracts.journal.Batch as Batch
use Rattle.adr_book.specs.contracts.journal.Journal as Journal
use Rattle.adr_book.specs.contracts.book.Book as Book

pub base_send : IsSend Base.the_row
base_send = search (sendable, std.crosses, shared_send, store_send, store_sync) depth 60 fits 60000

pub base_sync : IsSync Base.the_row
base_sync = search (sendable, std.crosses, shared_sync, store_send, store_sync) depth 60 fits 60000

pub batch_send : IsSend Batch.the_row
batch_send = search (sendable, std.crosses, list_send, edit_send, edit_sync) depth 60 fits 60000

pub batch_sync : IsSync Batch.the_row
batch_sync = search (sendable, std.crosses, list_sync, edit_send, edit_sync) depth 60 fits 60000

pub journal_send : IsSend Journal.the_row
journal_send = search (sendable, std.crosses, list_send, batch_send, batch_sync, edit_send, edit_sync) depth 60 fits 60000

pub journal_sync : IsSync Journal.the_row
journal_sync = search (sendable, std.crosses, list_sync, batch_send, batch_sync, edit_send, edit_sync) depth 60 fits 60000

pub book_send : IsSend Book.the_row
book_send = search (sendable, std.crosses, base_send, store_send, journal_send) depth 60 fits 60000

pub book_sync : IsSync Book.the_row
book_sync = search (sendable, std.crosses, base_sync, store_sync, journal_sync) depth 60 fits 60000
