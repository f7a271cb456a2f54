use Rattle.std.proofs.Common.{◌∙◌, List, rules, subst, sym}
use Rattle.left_right.specs.Sides.{view as known}
use mathlib.Core.List.{IsPrefix}
use Rattle.adr_book.specs.Ledger.{Ledger}
use Rattle.adr_board.specs.History.{seen_by}
use Rattle.adr_board.proofs.Prefixes.{prefix_self}
use Rattle.adr_board.proofs.Sights.{either_way, grown, longer, refused, shared_last, taken}
use Rattle.adr_board.proofs.board.Reader.look.Goals as goal

pub invariant_of-self-in_err-own : goal.invariant_of-self-in_err-own
invariant_of-self-in_err-own g c =
    let seen = seen_by c.in-Some.sight.page.log in (
      subst (λ (l : List Ledger). IsPrefix seen l) c.in-Some.ensures.sight.1 (prefix_self seen),
      rw (c.take.ensures.after) tt,
    )

pub returns-in_err-own-clause-refused : goal.returns-in_err-own-clause-refused
returns-in_err-own-clause-refused g c =
    let saw = c.in-Some.ensures.sight in
    let grows = grown (seen_by c.self.inside.page.log) (seen_by c.in-Some.sight.page.log) (known c.self.inside.raw.place) (known c.glance.new.reader.place) c.self.inside.told c.self.invariant.0 saw.0 saw.1 (search rules) in
    refused c.from_residual.result _ _ (rw (← c.self.view_is) grows) (search rules)

pub invariant_of-self-2 : goal.invariant_of-self-2
invariant_of-self-2 g c =
    let saw = c.in-Some.ensures.sight in
    let seen = seen_by c.in-Some.sight.page.log in
    let more = longer (seen_by c.self.inside.page.log) seen (known c.self.inside.raw.place) (known c.glance.new.reader.place) c.self.invariant.0 saw.0 saw.1 in
    let takes = taken _ (seen_by c.self.inside.page.log) seen (known c.glance.new.reader.place) c.in-Some.sight.page.log _ _ c.in-Some.sight.fresh c.self.inside.own more saw.3 saw.1 c.self.invariant.1
    c.in-Some.ensures.fresh (λ none. sym c.number_of.ensures ∙ c.in-Some.ensures.had none) in (
      subst (λ (l : List Ledger). IsPrefix seen l) saw.1 (prefix_self seen),
      c.in_ok-own.ensures.last _ seen (rw (c.take.ensures.value) takes),
    )

pub returns-clause-last : goal.returns-clause-last
returns-clause-last g c =
    let saw = c.in-Some.ensures.sight in
    let seen = seen_by c.in-Some.sight.page.log in
    let more = longer (seen_by c.self.inside.page.log) seen (known c.self.inside.raw.place) (known c.glance.new.reader.place) c.self.invariant.0 saw.0 saw.1 in
    let takes = taken _ (seen_by c.self.inside.page.log) seen (known c.glance.new.reader.place) c.in-Some.sight.page.log _ _ c.in-Some.sight.fresh c.self.inside.own more saw.3 saw.1 c.self.invariant.1
    c.in-Some.ensures.fresh (λ none. sym c.number_of.ensures ∙ c.in-Some.ensures.had none) in
    shared_last _ c.shared-share.result c.in_ok-own.own seen c.shared-share.ensures.same (c.in_ok-own.ensures.last _ seen (rw (c.take.ensures.value) takes))

pub returns-clause-grows : goal.returns-clause-grows
returns-clause-grows g c =
    let saw = c.in-Some.ensures.sight in
    let grows = grown (seen_by c.self.inside.page.log) (seen_by c.in-Some.sight.page.log) (known c.self.inside.raw.place) (known c.glance.new.reader.place) c.self.inside.told c.self.invariant.0 saw.0 saw.1 (search rules) in
    either_way c.shared-share.result _ (rw (← c.self.view_is) grows)

pub returns-clause-refused : goal.returns-clause-refused
returns-clause-refused g c =
    let saw = c.in-Some.ensures.sight in
    let grows = grown (seen_by c.self.inside.page.log) (seen_by c.in-Some.sight.page.log) (known c.self.inside.raw.place) (known c.glance.new.reader.place) c.self.inside.told c.self.invariant.0 saw.0 saw.1 (search rules) in
    refused c.shared-share.result _ _ (rw (← c.self.view_is) grows) c.shared-share.ensures.refusal
