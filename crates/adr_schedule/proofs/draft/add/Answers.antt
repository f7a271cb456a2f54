use Rattle.std.proofs.Common.{◌≡◌, Some, ap, sym, subst, ◌∙◌}
use Rattle.std.specs.Prelude.{MatchOption}
use Rattle.std.specs.Option.{option_copied}
use Rattle.adr_schedule.specs.declared.draft.Draft.{Draft}
use Rattle.adr_schedule.specs.Draft.{IsDraftOf, IsSame}
use Rattle.adr_schedule.specs.Slots.{in_slot}
use Rattle.adr_schedule.proofs.Drafts.{add_grows, add_least, add_own, add_seen, add_valid}
use Rattle.adr_schedule.proofs.draft.add.Goals as goal

pub returns-in_ok-push-clause-drafts : goal.returns-in_ok-push-clause-drafts
returns-in_ok-push-clause-drafts c =
    let at : in_slot c.args.groups.now c.args.slot ≡ Some c.in-Some.group.now = sym c.get.ensures ∙ ap option_copied c.in-Some.is in
    let m = subst (λ o. MatchOption o (IsSame c.args.change.now c.in-Some.group.now) (λ (d : Draft). (d.slot ≡ c.args.slot) × IsDraftOf c.args.change.now c.in-Some.group.now d)) c.in-Some-2.is c.in_ok-draft.ensures.draft in
    add_valid c.args.change.now c.args.groups.now c.args.list.now.items c.push.new.self.items c.in-Some-2.draft c.args.slot c.in-Some.group.now at c.in_ok-push.ensures.items m.0 m.1 c.requires.drafts

pub returns-in_ok-push-clause-own : goal.returns-in_ok-push-clause-own
returns-in_ok-push-clause-own c =
    let at : in_slot c.args.groups.now c.args.slot ≡ Some c.in-Some.group.now = sym c.get.ensures ∙ ap option_copied c.in-Some.is in
    let m = subst (λ o. MatchOption o (IsSame c.args.change.now c.in-Some.group.now) (λ (d : Draft). (d.slot ≡ c.args.slot) × IsDraftOf c.args.change.now c.in-Some.group.now d)) c.in-Some-2.is c.in_ok-draft.ensures.draft in
    add_own c.args.change.now c.args.groups.now c.args.list.now.items c.push.new.self.items c.in-Some-2.draft c.args.slot c.in-Some.group.now at c.in_ok-push.ensures.items m.0 m.1

pub returns-in_ok-push-clause-grows : goal.returns-in_ok-push-clause-grows
returns-in_ok-push-clause-grows c =
    let at : in_slot c.args.groups.now c.args.slot ≡ Some c.in-Some.group.now = sym c.get.ensures ∙ ap option_copied c.in-Some.is in
    let m = subst (λ o. MatchOption o (IsSame c.args.change.now c.in-Some.group.now) (λ (d : Draft). (d.slot ≡ c.args.slot) × IsDraftOf c.args.change.now c.in-Some.group.now d)) c.in-Some-2.is c.in_ok-draft.ensures.draft in
    add_grows c.args.change.now c.args.groups.now c.args.list.now.items c.push.new.self.items c.in-Some-2.draft c.args.slot c.in-Some.group.now at c.in_ok-push.ensures.items m.0 m.1

pub returns-in_ok-push-clause-seen : goal.returns-in_ok-push-clause-seen
returns-in_ok-push-clause-seen c =
    let at : in_slot c.args.groups.now c.args.slot ≡ Some c.in-Some.group.now = sym c.get.ensures ∙ ap option_copied c.in-Some.is in
    let m = subst (λ o. MatchOption o (IsSame c.args.change.now c.in-Some.group.now) (λ (d : Draft). (d.slot ≡ c.args.slot) × IsDraftOf c.args.change.now c.in-Some.group.now d)) c.in-Some-2.is c.in_ok-draft.ensures.draft in
    add_seen c.args.change.now c.args.groups.now c.args.list.now.items c.push.new.self.items c.in-Some-2.draft c.args.slot c.in-Some.group.now at c.in_ok-push.ensures.items m.0 m.1

pub returns-in_ok-push-clause-least : goal.returns-in_ok-push-clause-least
returns-in_ok-push-clause-least c =
    let at : in_slot c.args.groups.now c.args.slot ≡ Some c.in-Some.group.now = sym c.get.ensures ∙ ap option_copied c.in-Some.is in
    let m = subst (λ o. MatchOption o (IsSame c.args.change.now c.in-Some.group.now) (λ (d : Draft). (d.slot ≡ c.args.slot) × IsDraftOf c.args.change.now c.in-Some.group.now d)) c.in-Some-2.is c.in_ok-draft.ensures.draft in
    add_least c.args.change.now c.args.groups.now c.args.list.now.items c.push.new.self.items c.in-Some-2.draft c.args.slot c.in-Some.group.now at c.in_ok-push.ensures.items m.0 m.1 c.requires.two
