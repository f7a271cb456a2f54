-- What is shared may go to other threads where what it holds may, and be shared by them.
use denote.RattleType.{RattleType}
use denote.Param.Send.{IsSend, IsSync, sendable}
use Rattle.std.proofs.Crossing as std
use Rattle.adr_shared.specs.declared.key.MapKey.{Ghosts}
use Rattle.adr_shared.specs.contracts.list.SharedList as SharedList
use Rattle.adr_shared.specs.contracts.map.SharedMap as SharedMap
use Rattle.adr_shared.specs.contracts.shared.Shared as Shared
use Rattle.adr_shared.proofs.tree.Tree.TheLaws.TheKnot.{both_send-Tree, both_sync-Tree}

module _ (T : RattleType) (s : IsSend T) (y : IsSync T) where
  pub shared_send : IsSend (Shared.the_row T)
  shared_send = search (sendable, std.crosses) depth 60 fits 60000

  pub shared_sync : IsSync (Shared.the_row T)
  shared_sync = search (sendable, std.crosses) depth 60 fits 60000

module _ (K V : RattleType) (g : Ghosts K.Denot) (sk : IsSend K) (yk : IsSync K) (sv : IsSend V) (yv : IsSync V) where
  pub map_send : IsSend (SharedMap.the_row K V g)
  map_send = search (sendable, std.crosses, both_send-Tree) depth 60 fits 60000

  pub map_sync : IsSync (SharedMap.the_row K V g)
  map_sync = search (sendable, std.crosses, both_sync-Tree) depth 60 fits 60000

module _ (T : RattleType) (s : IsSend T) (y : IsSync T) where
  pub list_send : IsSend (SharedList.the_row T)
  list_send = search (sendable, std.crosses, map_send) depth 60 fits 60000

  pub list_sync : IsSync (SharedList.the_row T)
  list_sync = search (sendable, std.crosses, map_sync) depth 60 fits 60000
