use Rattle.std.proofs.Common.{◌∙◌, ap, sym, List, eqb, length, if◌then◌else◌}
use Rattle.adr_value.specs.Same.{same_type}
use Rattle.adr_model.specs.Timeline.{shows}
use Rattle.adr_value.specs.Payload.{name_of}
use Rattle.adr_shared.specs.Map.{put, without}
use Rattle.adr_model.specs.declared.timeline.Segment.{Segment}
use Rattle.adr_group.specs.Group.{shown_in}
use Rattle.adr_group.specs.declared.type_name.TypeName.{TypeName}
use Rattle.adr_group.proofs.Listed.{put_shows, shown_put, shown_without, without_shows}
use Rattle.adr_group.proofs.timelines.Timelines.with.Goals as goal

pub invariant_of-result : goal.invariant_of-result
invariant_of-result c = without_shows (name_of c.in_ok-name.name.payload_type) c.self.inside.by_type c.in_ok-by_type.by_type c.in_ok-by_type.ensures c.self.invariant

pub returns-then-is_empty-clause-shown : goal.returns-then-is_empty-clause-shown
returns-then-is_empty-clause-shown c k t =
    ap (λ ls. shown_in ls k t) (c.in_ok-by_type.ensures ∙ ap (λ (n : TypeName). without (name_of n.payload_type) c.self.inside.by_type) c.in_ok-name.ensures ∙ ap (λ ls. without (name_of c.args.payload_type.now) ls) c.self.view_is)
    ∙ shown_without c.args.payload_type.now k t c.args.timeline c.args.self.now (sym c.is_empty.ensures ∙ c.if-is_empty.true)

pub invariant_of-result-2 : goal.invariant_of-result-2
invariant_of-result-2 c = put_shows (name_of c.in_ok-name.name.payload_type) c.in_ok-line.line c.self.inside.by_type c.in_ok-by_type-2.by_type c.in_ok-by_type-2.ensures
    (ap (λ (l : List Segment). eqb (length l) 0) c.in_ok-line.ensures ∙ sym c.is_empty.ensures ∙ c.if-is_empty.false) c.self.invariant

pub returns-clause-shown : goal.returns-clause-shown
returns-clause-shown c k t =
    ap (λ ls. shown_in ls k t) (c.in_ok-by_type-2.ensures ∙ ap (λ (n : TypeName). put (name_of n.payload_type) c.in_ok-line.line c.self.inside.by_type) c.in_ok-name.ensures ∙ ap (λ ls. put (name_of c.args.payload_type.now) c.in_ok-line.line ls) c.self.view_is)
    ∙ shown_put c.args.payload_type.now k t c.in_ok-line.line c.args.self.now
    ∙ ap (λ (l : List Segment). if same_type c.args.payload_type.now k then shows l t else shown_in c.args.self.now k t) c.in_ok-line.ensures
