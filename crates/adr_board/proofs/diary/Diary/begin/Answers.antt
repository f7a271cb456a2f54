use Rattle.std.proofs.Common.{rules, ap, ◌∙◌, sym, refl}
use Rattle.adr_board.proofs.Turns.{begins}
use Rattle.adr_board.proofs.diary.Diary.begin.Goals as goal

pub compare_exchange-found-requires : goal.compare_exchange-found-requires
compare_exchange-found-requires c =
    let h = c.args.self.now.counter_is in
    let page = c.again-page.ensures in
    let offer = c.plain-offer.ensures in
    let pen = c.no_pen-pen.ensures in (
      ap (λ w. w.tracked) h,
      ap (λ s. s.book) page ∙ sym (ap (λ w. w.book) h),
      pen.0 ∙ (ap (λ s. s.book) page ∙ sym (ap (λ w. w.book) h)),
      offer.0,
      rw (ap (λ w. w.key) h, pen.1, offer.1, offer.3) (begins c.again-page.result.log _ _ c.args.self.now.attempts (search rules) refl),
    )
