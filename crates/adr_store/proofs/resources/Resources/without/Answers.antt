use Rattle.std.proofs.Common.{◌∙◌, ap, sym, subst}
use Rattle.std.specs.Option.{option_copied}
use Rattle.adr_refusal.specs.Copy.{IsCopyOf}
use Rattle.adr_value.specs.declared.limits.TheConstants.{MOST_RESOURCES}
use Rattle.adr_model.proofs.Keyed.{resource_id}
use Rattle.adr_store.proofs.Found.{the_one, without_none}
use Rattle.adr_store.proofs.Counted.{told_some, told_drop, few_less}
use Rattle.adr_store.proofs.resources.Resources.without.Goals as goal

pub returns-in_default : goal.returns-in_default
returns-in_default c =
    let none = ap (λ rs. the_one resource_id c.args.id.now rs) (sym c.self.view_is) ∙ sym c.get.ensures.value ∙ ap option_copied c.in_default.is in
    subst (λ rs. IsCopyOf c.copy.result rs) (sym (without_none resource_id c.args.id.now c.args.self.now none)) c.copy.ensures

pub without-requires : goal.without-requires
without-requires c =
    told_some resource_id (λ r. r.ven_id) c.self.inside.owners.counts c.self.inside.table c.args.id.now c.in-Some.old.now
    c.self.invariant.owned c.in-Some.ensures.distinct (sym c.get.ensures.value ∙ ap option_copied c.in-Some.is)
    c.get-2.result.now.ven_id (ap (λ r. r.ven_id) c.get-2.ensures)

pub invariant_of-result : goal.invariant_of-result
invariant_of-result c =
    rw c.in_ok-without-2.ensures
    (record {
      owned = told_drop resource_id (λ r. r.ven_id) c.self.inside.owners.counts c.in_ok-without.field-0.counts c.self.inside.table c.args.id.now c.in-Some.old.now
          c.self.invariant.owned c.in-Some.ensures.distinct (sym c.get.ensures.value ∙ ap option_copied c.in-Some.is)
          c.get-2.result.now.ven_id (ap (λ r. r.ven_id) c.get-2.ensures) c.in_ok-without.ensures.counts;
      few = few_less MOST_RESOURCES resource_id c.args.id.now c.self.inside.table c.self.invariant.few;
    })
