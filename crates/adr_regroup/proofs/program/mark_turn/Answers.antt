use Rattle.std.proofs.Common.{[], ℕ, List, ap, subst, sym, ◌∙◌}
use Rattle.std.specs.Option.{option_copied}
use Rattle.adr_lines.specs.Grouped.{written_event}
use Rattle.adr_model.proofs.Lists.{same_bytes}
use Rattle.adr_regroup.specs.Program.{IsMarking}
use Rattle.adr_regroup.proofs.Programs.{apart_of, event_is, same_of}
use Rattle.adr_regroup.proofs.Turned.{after_other, after_own}
use Rattle.adr_regroup.proofs.program.mark_turn.Goals as goal

pub returns-then-ne-clause-marked : goal.returns-then-ne-clause-marked
returns-then-ne-clause-marked c so_far =
    let at = event_is _ _ (sym c.event_at.ensures ∙ ap option_copied c.in-Some.is) in
    after_other c.args.old.now.objects c.args.program.now c.args.place (written_event c.in-Some.event.now at.0) at.1 c.args.marks.now.items so_far
    (apart_of _ _ _ _ c.text.ensures.value c.text-2.ensures.value c.if-ne.ensures)

pub returns-clause-marked : goal.returns-clause-marked
returns-clause-marked c so_far =
    let at = event_is _ _ (sym c.event_at.ensures ∙ ap option_copied c.in-Some.is) in
    let turn = c.in_ok-turn.turn in
    after_own c.args.old.now.objects c.args.program.now c.args.place (written_event c.in-Some.event.now at.0) at.1 c.args.was.now c.requires.was
    (same_bytes _ _ (same_of _ _ _ _ c.text.ensures.value c.text-2.ensures.value c.if-ne.ensures))
    turn.lost.items turn.gained.items c.in_ok-turn.ensures.lost c.in_ok-turn.ensures.gained _ _ _ so_far
    (subst (λ (ps : List ℕ). IsMarking c.args.marks.now.items c.mark.new.marks.items ps []) c.as_slice.ensures.value c.mark.ensures)
    (subst (λ (ps : List ℕ). IsMarking c.mark.new.marks.items c.mark-2.new.marks.items ps []) c.as_slice-2.ensures.value c.mark-2.ensures)
