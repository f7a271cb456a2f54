use Rattle.std.proofs.Common.{rules, ◌≡◌, ◌+◌, ◌-◌, ◌/◌, ◌<◌, length, None, Option, drop, sym, refl, arith, subst}
use Rattle.std.proofs.lemmas.List.{drop-drop, get_or-set_same}
use Rattle.adr_time.specs.declared.span.End.{End}
use Rattle.adr_index.specs.Chunks.{all_listed, listed, IsChunk}
use Rattle.adr_index.proofs.Scanned.{each_taken, each_left}
use Rattle.adr_index.specs.Tree.{IsGreatest}
use Rattle.adr_index.proofs.Grown.{level_some, left_short, right_short, tree_few, tree_written, greatest_halves, set_read}
use Rattle.adr_index.proofs.Mended.{but_left, but_right}
use Rattle.adr_index.proofs.tops.+rebuild_chunks.Goals as goal

pub returns-then-count-le-FEW-clause-tree : goal.returns-then-count-le-FEW-clause-tree
returns-then-count-le-FEW-clause-tree t c =
    let two : 1 < length c.args.chunks.now = search rules in
    let inside : length c.args.chunks.now / 2 - 1 < length c.args.tops.now = omega (arith, c.requires.lengths) in
    tree_few listed 6 c.args.levels c.args.chunks.now _ (search rules) (λ _. rw (get_or-set_same c.args.tops.now (length c.args.chunks.now / 2 - 1) c.greatest_of_chunks-then-count-le-FEW.result None inside) c.greatest_of_chunks-then-count-le-FEW.ensures)

pub rebuild_chunks-left_greatest-requires : goal.rebuild_chunks-left_greatest-requires
rebuild_chunks-left_greatest-requires t c =
    let two : 1 < length c.args.chunks.now = search rules in
    let level = level_some c.args.levels (length c.args.chunks.now) two c.requires.levels in
    (search rules, (rw c.split_at.ensures.front (each_taken IsChunk (length c.args.chunks.now / 2) c.args.chunks.now c.requires.chunks), (rw c.split_at.ensures.front (left_short listed c.args.levels c.args.chunks.now c.args.tops.now level c.requires.levels), (omega (arith, c.split_at.ensures.front_len, c.split_at_mut-front.ensures.front_len), rw (c.split_at.ensures.front, c.split_at_mut-front.ensures.front) (but_left listed 6 c.args.levels c.args.from c.args.to c.min.result c.min-2.result c.args.chunks.now c.args.tops.now level (search rules) c.min.ensures c.min-2.ensures c.requires.rest)))))

pub rebuild_chunks-right_greatest-requires : goal.rebuild_chunks-right_greatest-requires
rebuild_chunks-right_greatest-requires t c =
    let two : 1 < length c.args.chunks.now = search rules in
    let level = level_some c.args.levels (length c.args.chunks.now) two c.requires.levels in
    let first : length c.args.chunks.now / 2 - 1 + 1 ≡ length c.args.chunks.now / 2 = omega (arith, two) in
    let past : c.split_at_mut-here.result.1.now ≡ drop (length c.args.chunks.now / 2) c.args.tops.now = rw (c.split_at_mut-here.ensures.back, c.split_at_mut-front.ensures.back, drop-drop 1 (length c.args.chunks.now / 2 - 1) c.args.tops.now, first) refl in
    (search rules, (rw c.split_at.ensures.back (each_left IsChunk (length c.args.chunks.now / 2) c.args.chunks.now c.requires.chunks), (rw c.split_at.ensures.back (right_short listed c.args.levels c.args.chunks.now c.args.tops.now level c.requires.levels), (omega (arith, c.split_at.ensures.back_len, c.split_at_mut-front.ensures.back_len, c.split_at_mut-here.ensures.back_len, c.requires.lengths), rw (c.split_at.ensures.back, past) (but_right listed 6 c.args.levels c.args.from c.args.to c.saturating_sub-from.result c.saturating_sub-to.result c.args.chunks.now c.args.tops.now level (search rules) c.saturating_sub-from.ensures c.saturating_sub-to.ensures c.requires.rest)))))

pub returns-clause-tree : goal.returns-clause-tree
returns-clause-tree t c =
    let two : 1 < length c.args.chunks.now = search rules in
    let level = level_some c.args.levels (length c.args.chunks.now) two c.requires.levels in
    let front : length c.rebuild_chunks-left_greatest.new.tops ≡ length c.args.chunks.now / 2 - 1 = search rules in
    let here : length c.split_at_mut-here.result.0.now ≡ 1 = search rules in
    tree_written listed 6 c.args.levels c.args.chunks.now c.split_at.result.0.now c.split_at.result.1.now c.rebuild_chunks-left_greatest.new.tops c.split_at_mut-here.result.0.now c.rebuild_chunks-right_greatest.new.tops c.later.result c.rebuild_chunks-left_greatest.result c.rebuild_chunks-right_greatest.result level two c.split_at.ensures.front c.split_at.ensures.back front here c.later.ensures
    c.rebuild_chunks-left_greatest.ensures.greatest c.rebuild_chunks-right_greatest.ensures.greatest
    c.rebuild_chunks-left_greatest.ensures.tree c.rebuild_chunks-right_greatest.ensures.tree

pub returns-clause-greatest : goal.returns-clause-greatest
returns-clause-greatest t c =
    let two : 1 < length c.args.chunks.now = search rules in
    let here : length c.split_at_mut-here.result.0.now ≡ 1 = search rules in
    subst (λ (g : Option End). IsGreatest g (all_listed c.args.chunks.now)) (sym (set_read c.split_at_mut-here.result.0.now c.later.result c.index-here-0.result here c.index-here-0.is))
    (greatest_halves listed c.args.chunks.now c.split_at.result.0.now c.split_at.result.1.now c.later.result c.rebuild_chunks-left_greatest.result c.rebuild_chunks-right_greatest.result c.split_at.ensures.front c.split_at.ensures.back c.later.ensures
    c.rebuild_chunks-left_greatest.ensures.greatest c.rebuild_chunks-right_greatest.ensures.greatest)
