use denote.Exit.{no}
use denote.Param.{param}
use denote.Param.Send.{param_send, arg_send, sendable}
use Rattle.adr_board.proofs.Crossing.{reader_send}
use Rattle.adr_trials.proofs.looking.look_all.Goals as goal

pub for_each_mut-requires-send-T : goal.for_each_mut-requires-send-T
for_each_mut-requires-send-T g c κs _ = param_send 1 _ (arg_send _ no _ (reader_send (param 0 g.row.J) g.J.Naming (search sendable)))
