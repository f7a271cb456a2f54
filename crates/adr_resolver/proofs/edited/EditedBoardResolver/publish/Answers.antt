use Rattle.adr_resolver.proofs.Editing.{made, answered}
use Rattle.adr_resolver.proofs.edited.EditedBoardResolver.publish.Goals as goal

pub returns-clause-ok : goal.returns-clause-ok
returns-clause-ok g c =
    let last = c.last-last.ensures.last in
    let done = c.publish.ensures in
    rw (← c.self.view_is) (made _ _ _ c.publish.result last.numbered done.board done.number done.most)

pub returns-clause-answer : goal.returns-clause-answer
returns-clause-answer g c =
    let last = c.last-last.ensures.last in
    let done = c.publish.ensures in
    rw (← c.self.view_is) (answered _ _ _ c.publish.result last.numbered done.number done.version)
