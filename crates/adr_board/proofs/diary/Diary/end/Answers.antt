use Rattle.std.proofs.Common.{ap, ◌∙◌, sym, ◌≡◌, ℕ, suc, ◌+◌, ◌*◌, length, arith, length-append, [], ◌∷◌}
use Rattle.logbook.specs.Pages.{may_write, nib}
use Rattle.adr_board.specs.History.{begun}
use Rattle.adr_board.proofs.Turns.{ends}
use Rattle.adr_board.proofs.diary.Diary.end.Goals as goal

pub compare_exchange-requires : goal.compare_exchange-requires
compare_exchange-requires c =
    let h = c.args.self.now.counter_is in
    let a = c.args.attempt in
    let offer = c.plain-offer.ensures in
    let book = c.requires.history ∙ sym (ap (λ w. w.book) h) in
    let m = c.args.self.now.attempts in
    let long : length a.page.log ≡ 2 * m + 1 = ap length c.requires.log ∙ omega (arith, length-append c.args.self.now.page.log (begun c.args.book.now ∷ []), c.args.self.now.counted) in
    let key : a.pen.nib.key ≡ suc (suc m) = omega (arith, a.right.2, long) in
    let right : a.pen.nib ≡ nib may_write (suc (suc m)) 0 = a.right.1 ∙ ap (λ (k : ℕ). nib may_write k 0) key in (
      ap (λ w. w.tracked) h,
      book,
      a.right.0 ∙ book,
      offer.0,
      rw (ap (λ w. w.key) h, right, offer.1, offer.3) (ends a.page.log _ m long),
    )
