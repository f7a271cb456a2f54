use Rattle.std.proofs.Common.{rules, ◌≡◌, ◌-◌, ◌/◌, ◌<◌, length, None, Option, sym, arith, subst, List}
use Rattle.std.proofs.lemmas.List.{get_or-set_same}
use Rattle.adr_time.specs.declared.span.End.{End}
use Rattle.adr_model.specs.declared.entry.Entry.{Entry}
use Rattle.adr_index.specs.Tree.{only, IsGreatest}
use Rattle.adr_index.proofs.Grown.{level_some, left_short, right_short, only_all, tree_few, tree_written, greatest_halves, set_read}
use Rattle.adr_index.proofs.tree.+rebuild.Goals as goal

pub returns-then-count-le-FEW-clause-tree : goal.returns-then-count-le-FEW-clause-tree
returns-then-count-le-FEW-clause-tree t c =
    let two : 1 < length c.args.entries.now = search rules in
    let inside : length c.args.entries.now / 2 - 1 < length c.args.greatest.now = omega (arith, c.requires.lengths) in
    tree_few only 8 c.args.levels c.args.entries.now _ (search rules) (λ _. rw (only_all c.args.entries.now, get_or-set_same c.args.greatest.now (length c.args.entries.now / 2 - 1) c.greatest_of-then-count-le-FEW.result None inside) c.greatest_of-then-count-le-FEW.ensures)

pub rebuild-left_greatest-requires : goal.rebuild-left_greatest-requires
rebuild-left_greatest-requires t c =
    let two : 1 < length c.args.entries.now = search rules in
    let level = level_some c.args.levels (length c.args.entries.now) two c.requires.levels in
    (search rules, (rw c.split_at.ensures.front (left_short only c.args.levels c.args.entries.now c.args.greatest.now level c.requires.levels), omega (arith, c.split_at.ensures.front_len, c.split_at_mut-front.ensures.front_len)))

pub rebuild-right_greatest-requires : goal.rebuild-right_greatest-requires
rebuild-right_greatest-requires t c =
    let two : 1 < length c.args.entries.now = search rules in
    let level = level_some c.args.levels (length c.args.entries.now) two c.requires.levels in
    (search rules, (rw c.split_at.ensures.back (right_short only c.args.levels c.args.entries.now c.args.greatest.now level c.requires.levels), omega (arith, c.split_at.ensures.back_len, c.split_at_mut-front.ensures.back_len, c.split_at_mut-here.ensures.back_len, c.requires.lengths)))

pub returns-clause-tree : goal.returns-clause-tree
returns-clause-tree t c =
    let two : 1 < length c.args.entries.now = search rules in
    let level = level_some c.args.levels (length c.args.entries.now) two c.requires.levels in
    let front : length c.rebuild-left_greatest.new.greatest ≡ length c.args.entries.now / 2 - 1 = search rules in
    let here : length c.split_at_mut-here.result.0.now ≡ 1 = search rules in
    tree_written only 8 c.args.levels c.args.entries.now c.split_at.result.0.now c.split_at.result.1.now c.rebuild-left_greatest.new.greatest c.split_at_mut-here.result.0.now c.rebuild-right_greatest.new.greatest c.later.result c.rebuild-left_greatest.result c.rebuild-right_greatest.result level two c.split_at.ensures.front c.split_at.ensures.back front here c.later.ensures
    (rw (only_all c.split_at.result.0.now) c.rebuild-left_greatest.ensures.greatest) (rw (only_all c.split_at.result.1.now) c.rebuild-right_greatest.ensures.greatest)
    c.rebuild-left_greatest.ensures.tree c.rebuild-right_greatest.ensures.tree

pub returns-clause-greatest : goal.returns-clause-greatest
returns-clause-greatest t c =
    let two : 1 < length c.args.entries.now = search rules in
    let here : length c.split_at_mut-here.result.0.now ≡ 1 = search rules in
    subst (λ (g : Option End). IsGreatest g c.args.entries.now) (sym (set_read c.split_at_mut-here.result.0.now c.later.result c.index-here-0.result here c.index-here-0.is))
    (subst (λ (xs : List Entry). IsGreatest c.later.result xs) (only_all c.args.entries.now)
    (greatest_halves only c.args.entries.now c.split_at.result.0.now c.split_at.result.1.now c.later.result c.rebuild-left_greatest.result c.rebuild-right_greatest.result c.split_at.ensures.front c.split_at.ensures.back c.later.ensures
    (rw (only_all c.split_at.result.0.now) c.rebuild-left_greatest.ensures.greatest) (rw (only_all c.split_at.result.1.now) c.rebuild-right_greatest.ensures.greatest)))
