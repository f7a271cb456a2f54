use Rattle.std.proofs.Common.{◌≡◌, ◌<◌, ap, subst, arith, List}
use Rattle.std.proofs.lemmas.Bool.Decides.{nat_tests}
use mathlib.Core.List.{IsPrefix}
use Rattle.adr_board.specs.declared.diary.DiaryEntry.{DiaryEntry}
use Rattle.adr_board.proofs.Histories.{begins_later, begins_same}
use Rattle.adr_board.proofs.board.Told.begins.Goals as goal

pub returns-then-self-sight : goal.returns-then-self-sight
returns-then-self-sight g c _ =
    let both = c.learn.new.self.log in
    let mine = c.self.inside in
    let sight = c.args.sight.now in
    let this : IsPrefix mine.page.log both = subst (λ (l : List DiaryEntry). IsPrefix l both) (ap (λ s. s.log) c.again-both.ensures) c.learn.ensures.2 in
    let less : mine.number < sight.number = omega arith in
    rw (← c.self.view_is) (begins_later mine.page.log sight.page.log both _ _ _ _ _ c.requires.1.0 c.self.invariant.1 c.requires.1.1 this c.learn.ensures.3 less)

pub returns : goal.returns
returns g c is =
    let both = c.learn.new.self.log in
    let mine = c.self.inside in
    let sight = c.args.sight.now in
    let this : IsPrefix mine.page.log both = subst (λ (l : List DiaryEntry). IsPrefix l both) (ap (λ s. s.log) c.again-both.ensures) c.learn.ensures.2 in
    let same : mine.attempt ≡ sight.attempt = grind (arith, nat_tests) in
    rw (← c.self.view_is) (begins_same mine.page.log sight.page.log both _ _ _ _ _ c.requires.1.0 c.self.invariant.1 c.requires.1.1 this c.learn.ensures.3 same)
