use Rattle.std.proofs.Common.{◌≤◌, ap, subst, arith, List}
use mathlib.Core.List.{IsPrefix}
use Rattle.adr_board.specs.declared.diary.DiaryEntry.{DiaryEntry}
use Rattle.adr_board.proofs.Histories.{lasts_meet}
use Rattle.adr_board.proofs.board.Told.longer.Goals as goal

pub returns-then-self-other-clause-this : goal.returns-then-self-other-clause-this
returns-then-self-other-clause-this g c =
    let both = c.learn.new.self.log in
    let mine = c.self.inside in
    let this : IsPrefix mine.page.log both = subst (λ (l : List DiaryEntry). IsPrefix l both) (ap (λ s. s.log) c.again-both.ensures) c.learn.ensures.2 in
    let less : mine.number ≤ c.other.inside.number = omega arith in
    rw (c.again.ensures, ← c.self.view_is, ← c.other.view_is) (lasts_meet mine.page.log c.other.inside.page.log both _ _ _ _ c.self.invariant.1 c.other.invariant.1 this c.learn.ensures.3 less)

pub returns-clause-that : goal.returns-clause-that
returns-clause-that g c =
    let both = c.learn.new.self.log in
    let mine = c.self.inside in
    let this : IsPrefix mine.page.log both = subst (λ (l : List DiaryEntry). IsPrefix l both) (ap (λ s. s.log) c.again-both.ensures) c.learn.ensures.2 in
    let less : c.other.inside.number ≤ mine.number = omega arith in
    rw (c.again-else-self-other.ensures, ← c.self.view_is, ← c.other.view_is) (lasts_meet c.other.inside.page.log mine.page.log both _ _ _ _ c.other.invariant.1 c.self.invariant.1 c.learn.ensures.3 this less)
