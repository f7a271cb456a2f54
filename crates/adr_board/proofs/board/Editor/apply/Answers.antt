use Rattle.adr_board.proofs.Publishers.{still_shown}
use Rattle.adr_board.proofs.board.Editor.apply.Goals as goal

pub invariant_of-self : goal.invariant_of-self
invariant_of-self g c = still_shown _ _ _ _ _ _ _ _ _ c.apply.ensures.applied.tie c.apply.ensures.last c.self.invariant
