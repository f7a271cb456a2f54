use Rattle.std.proofs.Common.{rules, ◌≡◌, ◌<◌, length, true, false, sym, ◌∙◌, arith}
use Rattle.std.proofs.lemmas.List.{append-nil}
use Rattle.adr_index.specs.Query.{any_late}
use Rattle.adr_index.specs.Tree.{any_lasts}
use Rattle.adr_index.proofs.ByEnd.{searched_halves}
use Rattle.adr_index.proofs.Grown.{few_spared, level_some, spare_left, spare_right}
use Rattle.adr_index.proofs.Searched.{none_last, none_late_last, found_left, looks_left, looks_both, looks_few, starts_left, starts_right}
use Rattle.adr_index.proofs.tree.+search.Goals as goal

pub returns-then-not-any_reaches-clause-found : goal.returns-then-not-any_reaches-clause-found
returns-then-not-any_reaches-clause-found g t c =
    let two : 1 < length c.args.entries.now = c.if-count-lt2.false in
    let none : any_lasts c.args.entries.now c.args.asked.now.query.from ≡ false = sym c.any_reaches.ensures ∙ c.if-not-any_reaches.true in
    rw (none_last c.args.entries.now c.args.asked.now.query none) (sym (append-nil c.args.found.now.items))

pub returns-then-not-any_reaches-clause-late : goal.returns-then-not-any_reaches-clause-late
returns-then-not-any_reaches-clause-late g t c =
    let two : 1 < length c.args.entries.now = c.if-count-lt2.false in
    let none : any_lasts c.args.entries.now c.args.asked.now.query.from ≡ false = sym c.any_reaches.ensures ∙ c.if-not-any_reaches.true in
    sym (none_late_last c.args.entries.now c.args.asked.now.query none)

pub returns-then-count-le-FEW-clause-looks : goal.returns-then-count-le-FEW-clause-looks
returns-then-count-le-FEW-clause-looks g t c =
    let two : 1 < length c.args.entries.now = c.if-count-lt2.false in
    let last : any_lasts c.args.entries.now c.args.asked.now.query.from ≡ true = sym c.any_reaches.ensures ∙ c.if-not-any_reaches.false in
    let cost = looks_few c.args.levels (length c.args.entries.now) c.args.entries.now c.args.asked.now.query last (few_spared c.args.levels (length c.args.entries.now) two (c.if-count-le-FEW.true) c.requires.levels) in
    omega (arith, cost, c.tick.ensures.most, c.scan-then-count-le-FEW.ensures.looks)

pub search-requires : goal.search-requires
search-requires g t c = λ κs lives.
    let two : 1 < length c.args.entries.now = c.if-count-lt2.false in
    let more : 8 < length c.args.entries.now = c.if-count-le-FEW.false in
    let level : 0 < c.args.levels = level_some c.args.levels (length c.args.entries.now) two (omega (arith, c.requires.levels)) in
    let whole = c.split_at.ensures.by_index.0 in (
      search rules,
      (
        lives,
        (
          omega (arith, c.split_at.ensures.front_len, spare_left c.args.levels (length c.args.entries.now) level more c.requires.levels),
          (
            omega (arith, c.split_at.ensures.front_len, c.split_at-2.ensures.front_len),
            (
              rw (c.split_at.ensures.front, c.split_at-2.ensures.front) (searched_halves c.args.is_by_end c.args.levels c.args.entries.now c.args.greatest.now level more c.requires.ends).0,
              starts_left c.split_at.result.0.now c.split_at.result.1.now (rw whole at c.requires.order),
            ),
          ),
        ),
      ),
    )

pub returns-in_err-search-clause-looks : goal.returns-in_err-search-clause-looks
returns-in_err-search-clause-looks g t c =
    let two : 1 < length c.args.entries.now = c.if-count-lt2.false in
    let level : 0 < c.args.levels = level_some c.args.levels (length c.args.entries.now) two (omega (arith, c.requires.levels)) in
    let last : any_lasts c.args.entries.now c.args.asked.now.query.from ≡ true = sym c.any_reaches.ensures ∙ c.if-not-any_reaches.false in
    let cost = looks_left c.args.entries.now c.split_at.result.0.now c.split_at.result.1.now c.args.asked.now.query c.split_at.ensures.by_index.0 c.args.levels level last in
    omega (arith, cost, c.tick.ensures.most, c.search.ensures.looks)

pub returns-then-branch-clause-found : goal.returns-then-branch-clause-found
returns-then-branch-clause-found g t c =
    let late : any_late c.split_at.result.0.now c.args.asked.now.query ≡ true = sym c.in_ok-search.ensures.late ∙ c.if-branch.true in
    rw (found_left c.args.entries.now c.split_at.result.0.now c.split_at.result.1.now c.args.asked.now.query c.split_at.ensures.by_index.0 c.requires.order late) c.in_ok-search.ensures.found

pub returns-then-branch-clause-looks : goal.returns-then-branch-clause-looks
returns-then-branch-clause-looks g t c =
    let two : 1 < length c.args.entries.now = c.if-count-lt2.false in
    let level : 0 < c.args.levels = level_some c.args.levels (length c.args.entries.now) two (omega (arith, c.requires.levels)) in
    let last : any_lasts c.args.entries.now c.args.asked.now.query.from ≡ true = sym c.any_reaches.ensures ∙ c.if-not-any_reaches.false in
    let cost = looks_left c.args.entries.now c.split_at.result.0.now c.split_at.result.1.now c.args.asked.now.query c.split_at.ensures.by_index.0 c.args.levels level last in
    omega (arith, cost, c.tick.ensures.most, c.search.ensures.looks)

pub search-requires-2 : goal.search-requires-2
search-requires-2 g t c = λ κs lives.
    let two : 1 < length c.args.entries.now = c.if-count-lt2.false in
    let more : 8 < length c.args.entries.now = c.if-count-le-FEW.false in
    let level : 0 < c.args.levels = level_some c.args.levels (length c.args.entries.now) two (omega (arith, c.requires.levels)) in
    let whole = c.split_at.ensures.by_index.0 in (
      search rules,
      (
        lives,
        (
          omega (arith, c.split_at.ensures.back_len, spare_right c.args.levels (length c.args.entries.now) level more c.requires.levels),
          (
            omega (arith, c.split_at.ensures.back_len, c.split_at-3.ensures.back_len, c.requires.lengths),
            (
              rw (c.split_at.ensures.back, c.split_at-3.ensures.back) (searched_halves c.args.is_by_end c.args.levels c.args.entries.now c.args.greatest.now level more c.requires.ends).1,
              starts_right c.split_at.result.0.now c.split_at.result.1.now (rw whole at c.requires.order),
            ),
          ),
        ),
      ),
    )

pub returns-clause-looks : goal.returns-clause-looks
returns-clause-looks g t c =
    let two : 1 < length c.args.entries.now = c.if-count-lt2.false in
    let level : 0 < c.args.levels = level_some c.args.levels (length c.args.entries.now) two (omega (arith, c.requires.levels)) in
    let last : any_lasts c.args.entries.now c.args.asked.now.query.from ≡ true = sym c.any_reaches.ensures ∙ c.if-not-any_reaches.false in
    let early : any_late c.split_at.result.0.now c.args.asked.now.query ≡ false = sym c.in_ok-search.ensures.late ∙ c.if-branch.false in
    let cost = looks_both c.args.entries.now c.split_at.result.0.now c.split_at.result.1.now c.args.asked.now.query c.split_at.ensures.by_index.0 c.args.levels level last early in
    omega (arith, cost, c.tick.ensures.most, c.search.ensures.looks, c.search-2.ensures.looks)
