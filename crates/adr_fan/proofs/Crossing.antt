-- What a reader's thread takes may cross threads, and so may what it hands back.
use mathlib.Core.List.{[], ◌∷◌}
use mir.Syntax.{Sym}
use denote.RattleType.{RattleType}
use denote.Struct.Field.{u64-field}
use denote.Struct.Struct.{Struct}
use denote.Struct.Declared as S
use denote.Struct.Tuple.{TupleAt, type_at}
use denote.Enum.Enum.{Enum}
use denote.Enum.Declared as E
use denote.Param.Send.{IsSend, IsSync, enum_send, recorded_send, sendable, struct_send}
use Rattle.std.proofs.Crossing as std
use Rattle.adr_time.specs.contracts.moment.Moment as Moment
use Rattle.adr_value.specs.contracts.payload.PayloadType as PayloadType
use Rattle.adr_board.specs.declared.rule.Naming.{Ghosts as Names}
use Rattle.adr_value.proofs.Crossing.{name_send}
use Rattle.adr_object.proofs.Crossing.{id_send}
use Rattle.adr_board.proofs.Crossing.{reader_send}
use Rattle.adr_fan.specs.contracts.queries.Query as Query
use Rattle.adr_fan.specs.contracts.queries.Sent as Sent
use Rattle.adr_fan.specs.contracts.mailbox.Mailbox as Mailbox
use Rattle.adr_fan.specs.contracts.reading.Reply as Reply
use Rattle.adr_fan.specs.contracts.reading.Part as Part

moment_send : IsSend Moment.the_row
moment_send = search sendable depth 60 fits 60000

type_send : IsSend (Enum (E.shape PayloadType.the_type))
type_send = search (sendable, name_send) depth 60 fits 60000

query_send : IsSend (Enum (E.shape Query.the_type))
query_send =
    enum_send (E.shape Query.the_type)
    ((id_send, (type_send, (moment_send, tt))), ((id_send, (type_send, (moment_send, (moment_send, tt)))), ((type_send, (moment_send, tt)), ((id_send, tt), tt))))

sent_send : IsSend Sent.the_row
sent_send = search (sendable, std.crosses, query_send) depth 60 fits 60000

pub mailbox_send : IsSend Mailbox.the_row
mailbox_send = search (sendable, std.crosses, sent_send) depth 60 fits 60000

pub mailbox_sync : IsSync Mailbox.the_row
mailbox_sync = search (sendable, std.crosses, sent_send) depth 60 fits 60000

reply_send : IsSend Reply.the_row
reply_send = search (sendable, std.crosses, sent_send) depth 60 fits 60000

-- a reader's part
pub part_send : (J : RattleType) (g : Names J.Denot) → IsSend J → IsSend (Part.the_row J g)
part_send J g s =
    let T = Part.the_type J g in
    recorded_send (Struct (S.shape T)) T.D T.to T.to_one
    (struct_send (S.shape T) (reader_send J g s, (std.Vec-send Reply.the_row reply_send, (search sendable, tt))))

number_send : IsSend u64-field.row
number_send = search sendable depth 60 fits 60000

-- what a reader's thread takes: its runtime, allocator, gate, mailbox and reader, and the seat
pub taken_send : (name : Sym) {R A G M V : RattleType} → IsSend R → IsSend A → IsSend G → IsSend M → IsSend V → IsSend (TupleAt name (R ∷ A ∷ G ∷ M ∷ V ∷ u64-field.row ∷ []))
taken_send name {R} {A} {G} {M} {V} rt alloc gate mailbox reader =
    let T = type_at name (R ∷ A ∷ G ∷ M ∷ V ∷ u64-field.row ∷ []) in
    recorded_send (Struct (S.shape T)) T.D T.to T.to_one (struct_send (S.shape T) (rt, (alloc, (gate, (mailbox, (reader, (number_send, tt)))))))
