use Rattle.std.proofs.Common.{IsTrue, arith, sym, subst}
use Rattle.adr_object.specs.Id.{is_id}
use Rattle.adr_object.proofs.Leads.{smaller_lead, greater_lead}
use Rattle.adr_object.proofs.id.IdTextSoughtId.compare_led.Goals as goal

pub returns-then-lead-other_lead-2 : goal.returns-then-lead-other_lead-2
returns-then-lead-other_lead-2 c =
    let own = subst (λ text. IsTrue (is_id text)) c.self.view_is c.self.invariant in
    let other = subst (λ text. IsTrue (is_id text)) c.other.view_is c.other.invariant in
    sym (smaller_lead c.text_lead_laws.ensures c.args.self.now c.args.other.now own other c.args.lead c.args.other_lead c.requires.own c.requires.other c.if-lead-other_lead-2.true)

pub returns-else-lead-other_lead-2 : goal.returns-else-lead-other_lead-2
returns-else-lead-other_lead-2 c =
    let own = subst (λ text. IsTrue (is_id text)) c.self.view_is c.self.invariant in
    let other = subst (λ text. IsTrue (is_id text)) c.other.view_is c.other.invariant in
    sym (greater_lead c.text_lead_laws.ensures c.args.self.now c.args.other.now own other c.args.lead c.args.other_lead c.requires.own c.requires.other (omega (arith, c.if-lead-other_lead.false, c.if-lead-other_lead-2.false)))
