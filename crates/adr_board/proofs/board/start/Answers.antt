use Rattle.std.proofs.Common.{◌≡◌, ◌∙◌, ap, arith, length}
use Rattle.std.specs.Arc.{arc_value}
use Rattle.adr_board.specs.Publications.{opening_book}
use Rattle.adr_board.specs.Rules.{showing}
use Rattle.adr_board.proofs.Following.{first_carried}
use Rattle.adr_board.proofs.Histories.{first_log}
use Rattle.adr_board.proofs.Steps.{starts}
use Rattle.adr_board.proofs.board.start.Goals as goal

pub new-requires-clause-rule : goal.new-requires-clause-rule
new-requires-clause-rule g c =
    let diary = c.args.board.diary in
    let x = c.of-one.result in
    let page = c.of-one.ensures.page in
    let is = ap arc_value c.of-one.ensures.snapshot ∙ (c.in_ok-shown.ensures.same ∙ c.requires.first) in
    let number = ap (λ s. s.number) is in
    let first = ap (λ s. s.book) is in
    let place : diary.attempts ≡ 0 = omega (arith, diary.counted, ap length c.args.board.empty) in
    let noted = c.book.ensures ∙ ap (λ s. s.book) (c.deref.ensures ∙ c.requires.first) in
    let log = first_log c.in-Some.attempt.page.log diary.page.log opening_book _ c.in-Some.ensures.log c.args.board.empty noted in
    let history = ap (λ p. p.book) page ∙ (ap (λ p. p.book) c.again-page.ensures ∙ (c.in-Some.ensures.history ∙ c.requires.history)) in
    starts _ _ x number (ap (λ s. s.tie) is) first
    (first_carried _ (showing x) number first history (ap (λ p. p.log) page ∙ (ap (λ p. p.log) c.again-page.ensures ∙ log)) (c.of-one.ensures.attempt ∙ place))
