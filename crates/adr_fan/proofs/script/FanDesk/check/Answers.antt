use Rattle.std.proofs.Common.{rules, ◌∙◌, IsTrue, List, sym, ap, subst}
use Rattle.adr_resolver.specs.Fan.{Fan, Sent}
use Rattle.adr_fan.specs.declared.reading.Reply.{Reply}
use Rattle.adr_fan.specs.Parts.{AreInOrder}
use Rattle.adr_fan.proofs.Parts.{part_of}
use Rattle.adr_fan.proofs.script.FanDesk.check.Goals as goal

pub returns-then-are_in_order : goal.returns-then-are_in_order
returns-then-are_in_order g c =
    let d = c.args.self.now in
    let sent = c.self.inside.sent.items in
    let part = c.args.part in
    let replies = part.replies.items in
    let last = c.last_number-last.result in
    let found : AreInOrder last 0 c.as_slice.result.now c.as_slice-2.result.now = c.are_in_order.ensures c.if-are_in_order.true in
    let named : AreInOrder last 0 sent c.as_slice-2.result.now = subst (λ (q : List Sent). AreInOrder last 0 q c.as_slice-2.result.now) c.as_slice.ensures.value found in
    let order : AreInOrder last 0 sent replies = subst (λ (r : List Reply). AreInOrder last 0 sent r) c.as_slice-2.ensures.value named in
    let rule = ap (λ (f : Fan). f.machine.tie) (sym c.self.view_is) ∙ c.editor_laws.ensures.tie in
    let settled : IsTrue c.settle.result = search rules in
    part_of d g.J.Naming.tie sent part.reader.seen c.settle.new.reader.seen c.self.inside.editor.published replies last
    c.requires (c.settle.ensures.seen settled) (c.settle.ensures.all settled)
    (ap (λ (f : Fan). f.machine.published) (sym c.self.view_is)) rule (ap (λ (f : Fan). f.sent) (sym c.self.view_is))
    c.last_number-last.ensures
    order
