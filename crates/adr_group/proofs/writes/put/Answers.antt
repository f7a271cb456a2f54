use Rattle.std.proofs.Common.{ap, sym, ◌∙◌, ◌||◌}
use Rattle.std.specs.Prelude.{is_ok}
use Rattle.adr_lines.specs.Right.{has_number}
use Rattle.adr_group.specs.Writes.{is_number}
use Rattle.adr_group.proofs.Numbers.{put_rises, put_has, found_has, there_has}
use Rattle.adr_group.proofs.writes.put.Goals as goal

pub returns-in_ok-insert-clause-order : goal.returns-in_ok-insert-clause-order
returns-in_ok-insert-clause-order c =
    put_rises c.args.numbers.now.items c.deref.result.now c.in-Some.number c.deref.ensures.value c.requires c.insert.new.self.items c.in-Err.place c.in_ok-insert.ensures.items c.in-Err.ensures.position

pub returns-in_ok-insert-clause-has : goal.returns-in_ok-insert-clause-has
returns-in_ok-insert-clause-has c n =
    put_has c.args.numbers.now.items c.deref.result.now c.in-Some.number c.deref.ensures.value c.requires c.insert.new.self.items c.in-Err.place c.in_ok-insert.ensures.items c.in-Err.ensures.position n
    ∙ ap (λ o. is_number o n || has_number c.args.numbers.now.items n) (sym c.in-Some.is)

pub returns-in_default-binary_search-clause-has : goal.returns-in_default-binary_search-clause-has
returns-in_default-binary_search-clause-has c n =
    there_has c.args.numbers.now.items c.in-Some.number
    (sym (found_has c.args.numbers.now.items c.deref.result.now c.in-Some.number c.deref.ensures.value c.requires c.binary_search.result c.binary_search.ensures.position) ∙ ap is_ok c.in_default-binary_search.is) n
    ∙ ap (λ o. is_number o n || has_number c.args.numbers.now.items n) (sym c.in-Some.is)
