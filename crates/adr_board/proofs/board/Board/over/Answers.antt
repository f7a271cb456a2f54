use Rattle.std.proofs.Common.{◌∙◌, ap}
use Rattle.adr_board.specs.Publishers.{opening_of}
use Rattle.adr_board.proofs.Publishers.{opens_shown}
use Rattle.adr_board.proofs.board.Board.over.Goals as goal

pub invariant_of-editor : goal.invariant_of-editor
invariant_of-editor g c =
    let made = c.in_ok-publisher.ensures.ok in
    let e = c.in_ok-writer.ensures in
    opens_shown _ _ _ _ _ _ _ _ (ap (λ p. p.tie) made ∙ c.requires.tie) (ap (λ p. p.last) made ∙ ap opening_of c.requires.tie) e.shown e.known e.history e.says e.last

pub invariant_of-editor-in-Ok : goal.invariant_of-editor-in-Ok
invariant_of-editor-in-Ok g c =
    let made = c.in_ok-publisher.ensures.ok in
    let e = c.in_ok-writer.ensures in
    opens_shown _ _ _ _ _ _ _ _ (ap (λ p. p.tie) made ∙ c.requires.tie) (ap (λ p. p.last) made ∙ ap opening_of c.requires.tie) e.shown e.known e.history e.says e.last

pub invariant_of-editor-in-Err : goal.invariant_of-editor-in-Err
invariant_of-editor-in-Err g c =
    let made = c.in_ok-publisher.ensures.ok in
    let e = c.in_ok-writer.ensures in
    opens_shown _ _ _ _ _ _ _ _ (ap (λ p. p.tie) made ∙ c.requires.tie) (ap (λ p. p.last) made ∙ ap opening_of c.requires.tie) e.shown e.known e.history e.says e.last
