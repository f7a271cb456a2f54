use Rattle.adr_board.proofs.Publishers.{still_shown}
use Rattle.adr_board.proofs.board.Editor.apply_with.Goals as goal

pub invariant_of-self : goal.invariant_of-self
invariant_of-self g c = still_shown _ _ _ _ _ _ _ _ _ c.apply_with.ensures.applied.tie c.apply_with.ensures.last c.self.invariant
