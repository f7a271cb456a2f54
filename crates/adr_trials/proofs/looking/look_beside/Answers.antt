use mathlib.Core.List.{[], ◌∷◌}
use denote.Exit.{no}
use denote.Param.{param}
use denote.Param.Send.{param_send, arg_send, shr_send, mut_slice_send, sendable}
use Rattle.adr_board.proofs.Crossing.{captures_send, reader_send}
use Rattle.std.specs.contracts.sync.atomic.AtomicU64 as Atomic
use Rattle.std.proofs.Crossing as std
use Rattle.adr_trials.proofs.looking.look_beside.Goals as goal

pub join-publications-requires-send-F : goal.join-publications-requires-send-F
join-publications-requires-send-F g c κs _ =
    param_send 1 _ (arg_send _ no _ (captures_send _ (_ ∷ _ ∷ _ ∷ []) (shr_send _ _ (param 1 g.row.R) (search sendable), (mut_slice_send _ _ _ (reader_send (param 0 g.row.J) g.J.Naming (search sendable)), (shr_send _ _ Atomic.the_row (search (sendable, std.crosses)), tt)))))
