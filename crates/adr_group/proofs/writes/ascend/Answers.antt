use Rattle.std.proofs.Common.{rules, of_calls, ◌≡◌, ltb, ltb-true, subst, sym}
use Rattle.std.proofs.lemmas.List.Sorted.{answers_always}
use Rattle.std.specs.List.{IsAllAdjacentAnswer}
use Rattle.adr_group.proofs.writes.ascend.Goals as goal

pub returns : goal.returns
returns c = λ h k l.
    let all = subst (IsAllAdjacentAnswer (λ x y b. b ≡ ltb x y) c.args.numbers.now) h (c.is_sorted_by.ensures.cases ltb (answers_always _ _ _ (λ f a r g called. search (rules, of_calls)))) in
    ltb-true _ _ (sym (all k 0 l))
