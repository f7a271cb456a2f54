-- A handle may go to another thread.
use base.Shift.{Keyless}
use mir.Raw.{raw}
use denote.RattleType.{RattleType}
use denote.Memory.{lone}
use denote.RawPtr.{Ptr}
use denote.Builtin.{RawPtr}
use denote.Param.Send.{IsSend, owning_send, struct_send, sendable}
use denote.Struct.Struct.{exits_of}
use denote.Struct.Owning as owning
use Rattle.std.specs.Prelude.{Option, Some, None}
use Rattle.std.proofs.Crossing as std
use Rattle.std_alloc.proofs.SendSync as any
use Rattle.adr_c.specs.Owned.{heap, owned}
use Rattle.adr_embed.specs.contracts.editing.Editing as Editing
use Rattle.adr_embed.specs.contracts.reading.Reading as Reading
use Rattle.adr_embed.proofs.Crossing.{editing_send, reading_send}
use Rattle.adr_c.specs.contracts.editor.EditorBox as EditorBox
use Rattle.adr_c.specs.contracts.reader.ReaderBox as ReaderBox
use Rattle.adr_c.specs.contracts.editor.EditorHandle as EditorHandle
use Rattle.adr_c.specs.contracts.reader.ReaderHandle as ReaderHandle

pointer_send : IsSend RawPtr
pointer_send = search sendable

owned_keyless : (R : RattleType) → IsSend R → (p : Ptr) (held : Option R.Denot) → Keyless (owned R p held)
owned_keyless R s p None = tt
owned_keyless R s p (Some x) = (any.lies R s p x, std.frees.frees heap (raw (lone R.mir)) p)

editor_box_send : IsSend EditorBox.the_row
editor_box_send =
    let O = EditorBox.the_type in owning_send O (pointer_send, tt) (λ d. owned_keyless Editing.the_row editing_send d.at d.held)
    (λ k. any.quiet (owning.to O) (exits_of k (owning.fields O)) ((struct_send (owning.shape O) (pointer_send, tt)).leaving k))

pub editor_send : IsSend EditorHandle.the_row
editor_send = search (sendable, std.crosses, editor_box_send) depth 60 fits 60000

reader_box_send : IsSend ReaderBox.the_row
reader_box_send =
    let O = ReaderBox.the_type in owning_send O (pointer_send, tt) (λ d. owned_keyless Reading.the_row reading_send d.at d.held)
    (λ k. any.quiet (owning.to O) (exits_of k (owning.fields O)) ((struct_send (owning.shape O) (pointer_send, tt)).leaving k))

pub reader_send : IsSend ReaderHandle.the_row
reader_send = search (sendable, std.crosses, reader_box_send) depth 60 fits 60000
