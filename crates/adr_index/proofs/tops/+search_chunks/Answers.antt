use Rattle.std.proofs.Common.{rules, ◌≡◌, ◌/◌, ◌<◌, length, true, false, sym, ◌∙◌, arith}
use Rattle.std.proofs.lemmas.List.{append-nil}
use Rattle.adr_index.specs.Chunks.{all_listed, listed, IsChunk}
use Rattle.adr_index.specs.Query.{any_late, reached}
use Rattle.adr_index.specs.Tree.{any_lasts}
use Rattle.adr_index.proofs.Grown.{few_levels, level_some, left_short, right_short, tree_at}
use Rattle.adr_index.proofs.Searched.{none_last, none_late_last, found_left, reached_some, starts_left, starts_right}
use Rattle.adr_index.proofs.Scanned.{both_halves, each_left, each_taken, few_chunks_paid, left_paid, both_paid}
use Rattle.adr_index.proofs.tops.+search_chunks.Goals as goal

pub returns-then-not-any_chunk_reaches-clause-found : goal.returns-then-not-any_chunk_reaches-clause-found
returns-then-not-any_chunk_reaches-clause-found g t c =
    let two : 1 < length c.args.chunks.now = c.if-count-lt2.false in
    let none : any_lasts (all_listed c.args.chunks.now) c.args.asked.now.query.from ≡ false = sym c.any_chunk_reaches.ensures ∙ c.if-not-any_chunk_reaches.true in
    rw (none_last (all_listed c.args.chunks.now) c.args.asked.now.query none) (sym (append-nil c.args.found.now.items))

pub returns-then-not-any_chunk_reaches-clause-late : goal.returns-then-not-any_chunk_reaches-clause-late
returns-then-not-any_chunk_reaches-clause-late g t c =
    let two : 1 < length c.args.chunks.now = c.if-count-lt2.false in
    let none : any_lasts (all_listed c.args.chunks.now) c.args.asked.now.query.from ≡ false = sym c.any_chunk_reaches.ensures ∙ c.if-not-any_chunk_reaches.true in
    sym (none_late_last (all_listed c.args.chunks.now) c.args.asked.now.query none)

pub returns-then-count-le-FEW-clause-looks : goal.returns-then-count-le-FEW-clause-looks
returns-then-count-le-FEW-clause-looks g t c =
    let two : 1 < length c.args.chunks.now = c.if-count-lt2.false in
    let last : any_lasts (all_listed c.args.chunks.now) c.args.asked.now.query.from ≡ true = sym c.any_chunk_reaches.ensures ∙ c.if-not-any_chunk_reaches.false in
    let cost = few_chunks_paid c.args.levels c.args.depth (length c.args.chunks.now) (reached (all_listed c.args.chunks.now) c.args.asked.now.query) (reached_some (all_listed c.args.chunks.now) c.args.asked.now.query last) (few_levels c.args.levels (length c.args.chunks.now) two (c.if-count-le-FEW.true) c.requires.levels) in
    omega (arith, cost, c.tick.ensures.most, c.scan_chunks-then-count-le-FEW.ensures.looks)

pub search_chunks-requires : goal.search_chunks-requires
search_chunks-requires g t c = λ κs lives.
    let two : 1 < length c.args.chunks.now = c.if-count-lt2.false in
    let more : 6 < length c.args.chunks.now = c.if-count-le-FEW.false in
    let level : 0 < c.args.levels = level_some c.args.levels (length c.args.chunks.now) two c.requires.levels in
    let whole = both_halves c.args.chunks.now c.split_at.result.0.now c.split_at.result.1.now (length c.args.chunks.now / 2) c.split_at.ensures.front c.split_at.ensures.back in (
      search rules,
      (
        lives,
        (
          rw c.split_at.ensures.front (each_taken IsChunk (length c.args.chunks.now / 2) c.args.chunks.now c.requires.chunks),
          (
            rw c.split_at.ensures.front (each_taken _ (length c.args.chunks.now / 2) c.args.chunks.now c.requires.depth),
            (
              rw c.split_at.ensures.front (left_short listed c.args.levels c.args.chunks.now c.args.tops.now level c.requires.levels),
              (
                omega (arith, c.split_at.ensures.front_len, c.split_at-2.ensures.front_len),
                (
                  rw (c.split_at.ensures.front, c.split_at-2.ensures.front) ((tree_at listed 6 c.args.levels c.args.chunks.now c.args.tops.now level two c.requires.tree).1 more).0,
                  starts_left (all_listed c.split_at.result.0.now) (all_listed c.split_at.result.1.now) (rw whole at c.requires.order),
                ),
              ),
            ),
          ),
        ),
      ),
    )

pub returns-in_err-search_chunks-clause-looks : goal.returns-in_err-search_chunks-clause-looks
returns-in_err-search_chunks-clause-looks g t c =
    let two : 1 < length c.args.chunks.now = c.if-count-lt2.false in
    let level : 0 < c.args.levels = level_some c.args.levels (length c.args.chunks.now) two c.requires.levels in
    let last : any_lasts (all_listed c.args.chunks.now) c.args.asked.now.query.from ≡ true = sym c.any_chunk_reaches.ensures ∙ c.if-not-any_chunk_reaches.false in
    let whole = both_halves c.args.chunks.now c.split_at.result.0.now c.split_at.result.1.now (length c.args.chunks.now / 2) c.split_at.ensures.front c.split_at.ensures.back in
    let cost = left_paid c.args.chunks.now c.split_at.result.0.now c.split_at.result.1.now c.args.asked.now.query c.args.levels c.args.depth whole level last in
    omega (arith, cost, c.tick.ensures.most, c.search_chunks.ensures.looks)

pub returns-then-branch-clause-found : goal.returns-then-branch-clause-found
returns-then-branch-clause-found g t c =
    let late : any_late (all_listed c.split_at.result.0.now) c.args.asked.now.query ≡ true = sym c.in_ok-search_chunks.ensures.late ∙ c.if-branch.true in
    rw (found_left (all_listed c.args.chunks.now) (all_listed c.split_at.result.0.now) (all_listed c.split_at.result.1.now) c.args.asked.now.query (both_halves c.args.chunks.now c.split_at.result.0.now c.split_at.result.1.now (length c.args.chunks.now / 2) c.split_at.ensures.front c.split_at.ensures.back) c.requires.order late) c.in_ok-search_chunks.ensures.found

pub returns-then-branch-clause-looks : goal.returns-then-branch-clause-looks
returns-then-branch-clause-looks g t c =
    let two : 1 < length c.args.chunks.now = c.if-count-lt2.false in
    let level : 0 < c.args.levels = level_some c.args.levels (length c.args.chunks.now) two c.requires.levels in
    let last : any_lasts (all_listed c.args.chunks.now) c.args.asked.now.query.from ≡ true = sym c.any_chunk_reaches.ensures ∙ c.if-not-any_chunk_reaches.false in
    let whole = both_halves c.args.chunks.now c.split_at.result.0.now c.split_at.result.1.now (length c.args.chunks.now / 2) c.split_at.ensures.front c.split_at.ensures.back in
    let cost = left_paid c.args.chunks.now c.split_at.result.0.now c.split_at.result.1.now c.args.asked.now.query c.args.levels c.args.depth whole level last in
    omega (arith, cost, c.tick.ensures.most, c.search_chunks.ensures.looks)

pub search_chunks-requires-2 : goal.search_chunks-requires-2
search_chunks-requires-2 g t c = λ κs lives.
    let two : 1 < length c.args.chunks.now = c.if-count-lt2.false in
    let more : 6 < length c.args.chunks.now = c.if-count-le-FEW.false in
    let level : 0 < c.args.levels = level_some c.args.levels (length c.args.chunks.now) two c.requires.levels in
    let whole = both_halves c.args.chunks.now c.split_at.result.0.now c.split_at.result.1.now (length c.args.chunks.now / 2) c.split_at.ensures.front c.split_at.ensures.back in (
      search rules,
      (
        lives,
        (
          rw c.split_at.ensures.back (each_left IsChunk (length c.args.chunks.now / 2) c.args.chunks.now c.requires.chunks),
          (
            rw c.split_at.ensures.back (each_left _ (length c.args.chunks.now / 2) c.args.chunks.now c.requires.depth),
            (
              rw c.split_at.ensures.back (right_short listed c.args.levels c.args.chunks.now c.args.tops.now level c.requires.levels),
              (
                omega (arith, c.split_at.ensures.back_len, c.split_at-3.ensures.back_len, c.requires.lengths),
                (
                  rw (c.split_at.ensures.back, c.split_at-3.ensures.back) ((tree_at listed 6 c.args.levels c.args.chunks.now c.args.tops.now level two c.requires.tree).1 more).1,
                  starts_right (all_listed c.split_at.result.0.now) (all_listed c.split_at.result.1.now) (rw whole at c.requires.order),
                ),
              ),
            ),
          ),
        ),
      ),
    )

pub returns-clause-looks : goal.returns-clause-looks
returns-clause-looks g t c =
    let two : 1 < length c.args.chunks.now = c.if-count-lt2.false in
    let level : 0 < c.args.levels = level_some c.args.levels (length c.args.chunks.now) two c.requires.levels in
    let last : any_lasts (all_listed c.args.chunks.now) c.args.asked.now.query.from ≡ true = sym c.any_chunk_reaches.ensures ∙ c.if-not-any_chunk_reaches.false in
    let early : any_late (all_listed c.split_at.result.0.now) c.args.asked.now.query ≡ false = sym c.in_ok-search_chunks.ensures.late ∙ c.if-branch.false in
    let whole = both_halves c.args.chunks.now c.split_at.result.0.now c.split_at.result.1.now (length c.args.chunks.now / 2) c.split_at.ensures.front c.split_at.ensures.back in
    let cost = both_paid c.args.chunks.now c.split_at.result.0.now c.split_at.result.1.now c.args.asked.now.query c.args.levels c.args.depth whole level last early in
    omega (arith, cost, c.tick.ensures.most, c.search_chunks.ensures.looks, c.search_chunks-2.ensures.looks)
