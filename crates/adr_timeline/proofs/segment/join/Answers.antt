use Rattle.std.proofs.Common.{rules, ◌≡◌, ◌+◌, ◌-◌, length, sym, ◌∙◌}
use Rattle.adr_timeline.proofs.Joined.{joined_grown, joined_pushed, joined_first}
use Rattle.adr_timeline.proofs.segment.join.Goals as goal
use Rattle.adr_timeline.proofs.segment.join.Goals.{else-count-gt0-via-then-count-gt0+else-leads_to, else-count-gt0-via-else-count-gt0}

pub returns-then-leads_to : goal.returns-then-leads_to
returns-then-leads_to c =
    let n : c.len-count.result - 1 + 1 ≡ length c.args.segments.now.items = search rules in
    rw c.end_with.ensures (joined_grown _ _ _ _ c.args.piece n c.index.ensures c.index_mut.ensures.value (sym c.leads_to.ensures ∙ c.if-leads_to.true))

pub returns-in_ok-push : goal.returns-in_ok-push
returns-in_ok-push c = elim c.else-count-gt0.branch [
  | else-count-gt0-via-then-count-gt0+else-leads_to w ↦
      let n : c.len-count.result - 1 + 1 ≡ length c.args.segments.now.items = search rules in
      c.in_ok-push.ensures.items ∙ joined_pushed _ _ _ c.args.piece n w.index.ensures (sym w.leads_to.ensures ∙ w.if-leads_to.false)
  | else-count-gt0-via-else-count-gt0 w ↦
      let n : length c.args.segments.now.items ≡ 0 = search rules in
      c.in_ok-push.ensures.items ∙ joined_first _ c.args.piece n
]
