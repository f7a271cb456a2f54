use Rattle.std.proofs.Common.{rules, ◌∙◌, sym, ap}
use Rattle.std.proofs.lemmas.Result.{on_ok_weaker}
use Rattle.adr_timeline.specs.Parts.{joined_all}
use Rattle.adr_timeline.proofs.Chunks.{part_within}
use Rattle.adr_timeline.proofs.Searched.{past_turn, slice_late, halves, halves_joined}
use Rattle.adr_timeline.proofs.part.+join_slice.Goals as goal

pub returns-then-is_past : goal.returns-then-is_past
returns-then-is_past t c = past_turn c.args.from.now c.args.until.now c.args.segments.now c.args.line.now c.requires (sym c.is_past.ensures ∙ c.if-is_past.true)

pub returns-then-starts_late : goal.returns-then-starts_late
returns-then-starts_late t c = slice_late c.args.from.now c.args.until.now c.args.segments.now c.args.line.now c.requires (sym c.starts_late.ensures ∙ c.if-starts_late.true)

pub returns-then-is_within : goal.returns-then-is_within
returns-then-is_within t c = on_ok_weaker c.join_run.result
    (λ made. made ∙ ap (joined_all c.args.line.now) (sym (part_within c.args.from.now c.args.until.now c.args.segments.now c.requires (sym c.is_within.ensures ∙ c.if-is_within.true))))
    c.join_run.ensures

pub join_slice-requires : goal.join_slice-requires
join_slice-requires t c = ((search rules), (halves c.split_at.result.0.now c.split_at.result.1.now c.args.segments.now _ c.split_at.ensures.front c.split_at.ensures.back c.requires).front_canonical)

pub join_slice-requires-2 : goal.join_slice-requires-2
join_slice-requires-2 t c = ((search rules), (halves c.split_at.result.0.now c.split_at.result.1.now c.args.segments.now _ c.split_at.ensures.front c.split_at.ensures.back c.requires).back_canonical)

pub returns : goal.returns
returns t c = on_ok_weaker c.join_slice-2.result
    (λ made. halves_joined c.args.from.now c.args.until.now c.split_at.result.0.now c.split_at.result.1.now c.args.segments.now c.args.line.now c.join_slice.new.line c.join_slice-2.new.line
    (halves c.split_at.result.0.now c.split_at.result.1.now c.args.segments.now _ c.split_at.ensures.front c.split_at.ensures.back c.requires).whole
    c.in_ok-join_slice.ensures made)
    c.join_slice-2.ensures
