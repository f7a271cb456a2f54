use Rattle.std.proofs.Common.{◌≡◌, None, ap, sym, subst, ◌∙◌}
use Rattle.adr_schedule.specs.Draft.{IsSeen}
use Rattle.adr_schedule.specs.Slots.{in_slot, HasSlot}
use Rattle.adr_schedule.proofs.Counted.{seen_again, seen_first, seen_then}
use Rattle.adr_schedule.proofs.Drafts.{add_known}
use Rattle.adr_schedule.proofs.Numbered.{put_here}
use Rattle.adr_schedule.proofs.Seated.{some_same}
use Rattle.adr_schedule.proofs.draft.add_place.Goals as goal

pub returns-then-is_seen-clause-seen : goal.returns-then-is_seen-clause-seen
returns-then-is_seen-clause-seen c slot at =
    let known : HasSlot c.args.drafts.now.seen c.in-Some.slot = rw c.if-is_seen.true at c.is_seen.ensures in
    let same = some_same c.in-Some.slot slot (sym (sym c.slot.ensures.value ∙ c.in-Some.is) ∙ at) in
    subst (λ z. IsSeen c.args.change.now c.args.groups.now c.args.drafts.now.list.items z) same
    (c.requires.known c.in-Some.slot known.0 known.1)

pub returns-clause-known : goal.returns-clause-known
returns-clause-known c =
    add_known c.args.change.now c.args.groups.now c.args.drafts.now.list.items c.add.new.list.items c.args.drafts.now.seen c.in_ok-drafts.field-0 c.in-Some.slot c.in_ok-drafts.ensures
    c.in_ok-add.ensures.grows c.in_ok-add.ensures.seen c.requires.known

pub returns-clause-seen : goal.returns-clause-seen
returns-clause-seen c slot at =
    let same = some_same c.in-Some.slot slot (sym (sym c.slot.ensures.value ∙ c.in-Some.is) ∙ at) in
    subst (λ z. IsSeen c.args.change.now c.args.groups.now c.add.new.list.items z) same c.in_ok-add.ensures.seen

pub returns-then-is_seen-clause-tally : goal.returns-then-is_seen-clause-tally
returns-then-is_seen-clause-tally c all more known before =
    let there : HasSlot c.args.drafts.now.seen c.in-Some.slot = rw c.if-is_seen.true at c.is_seen.ensures in
    seen_again all more c.args.seats.now c.args.place c.args.drafts.now.seen c.args.drafts.now.tally known before c.in-Some.slot there.0
    (sym (sym c.in-Some.is ∙ c.slot.ensures.value)) there.1

pub returns-clause-last : goal.returns-clause-last
returns-clause-last c = (c.in-Some.slot, ap (λ seen. in_slot seen c.in-Some.slot) c.in_ok-drafts.ensures ∙ put_here c.args.drafts.now.seen c.in-Some.slot c.in-Some.slot)

pub returns-clause-tally : goal.returns-clause-tally
returns-clause-tally c all more known before =
    let new : in_slot c.args.drafts.now.seen c.in-Some.slot ≡ None = rw c.if-is_seen.false at c.is_seen.ensures in
    seen_first all more c.args.seats.now c.args.place c.args.drafts.now.seen c.args.drafts.now.tally known before c.in-Some.slot
    (sym (sym c.in-Some.is ∙ c.slot.ensures.value)) new c.add-2.new.self c.in_ok-add-2.ensures.slots c.in_ok-add-2.ensures.left

pub returns-clause-slots : goal.returns-clause-slots
returns-clause-slots c known =
    seen_then c.args.drafts.now.seen c.in_ok-drafts.field-0 c.args.drafts.now.tally c.add-2.new.self c.in-Some.slot c.in_ok-drafts.ensures c.in_ok-add-2.ensures.slots known
