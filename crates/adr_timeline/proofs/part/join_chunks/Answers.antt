use Rattle.std.proofs.Common.{List, refl, subst, sym, ◌∙◌}
use Rattle.std.proofs.lemmas.Result.{on_ok_weaker}
use Rattle.adr_model.specs.Timeline.{IsCanonical}
use Rattle.adr_model.specs.declared.timeline.Segment.{Segment}
use Rattle.adr_timeline.specs.Chunks.{listed}
use Rattle.adr_timeline.proofs.Chunks.{canonical_rest, first_canonical, joined_runs, late_turn, whole_canonical}
use Rattle.adr_timeline.proofs.part.join_chunks.Goals as goal

pub returns-then-starts_late : goal.returns-then-starts_late
returns-then-starts_late c = late_turn c.args.chunks.now c.in-Some.others.now c.in-Some.first.now c.args.line.now _ c.args.from.now c.args.until.now c.in-Some.ensures.cases.0 c.requires.canonical refl c.segments.ensures.filled (rw c.segments.ensures.segments at (sym c.starts_late.ensures ∙ c.if-starts_late.true))

pub join_chunk-requires : goal.join_chunk-requires
join_chunk-requires c = first_canonical c.args.chunks.now c.in-Some.others.now c.in-Some.first.now c.in-Some.ensures.cases.0 c.requires.canonical

pub count_over-requires-clause-canonical : goal.count_over-requires-clause-canonical
count_over-requires-clause-canonical c =
    let all = c.in-Some.ensures.cases.0 in
    canonical_rest c.in-Some.first.now c.in-Some.others.now (subst (λ (cs : List (List Segment)). IsCanonical (listed cs)) all c.requires.canonical)

pub join_whole-requires : goal.join_whole-requires
join_whole-requires c =
    let all = c.in-Some.ensures.cases.0 in
    (whole_canonical c.in-Some.others.now c.split_at.result.0.now c.split_at.result.1.now c.split_at.ensures.by_index.0
    (canonical_rest c.in-Some.first.now c.in-Some.others.now (subst (λ (cs : List (List Segment)). IsCanonical (listed cs)) all c.requires.canonical))).0

pub join_each_chunk-requires : goal.join_each_chunk-requires
join_each_chunk-requires c =
    let all = c.in-Some.ensures.cases.0 in
    (whole_canonical c.in-Some.others.now c.split_at.result.0.now c.split_at.result.1.now c.split_at.ensures.by_index.0
    (canonical_rest c.in-Some.first.now c.in-Some.others.now (subst (λ (cs : List (List Segment)). IsCanonical (listed cs)) all c.requires.canonical))).1

pub returns : goal.returns
returns c =
    let all = c.in-Some.ensures.cases.0 in
    on_ok_weaker c.join_each_chunk.result
    (λ made. joined_runs c.args.chunks.now c.in-Some.others.now c.split_at.result.0.now c.split_at.result.1.now c.in-Some.first.now c.args.line.now c.join_chunk.new.line c.join_whole.new.line c.join_each_chunk.new.line c.args.from.now c.args.until.now all c.split_at.ensures.by_index.0 c.in_ok-join_chunk.ensures c.in_ok-join_whole.ensures made)
    c.join_each_chunk.ensures
