use Rattle.std.proofs.Common.{length, ap, arith}
use Rattle.adr_value.specs.declared.limits.TheConstants.{MOST_RESOURCES}
use Rattle.adr_model.proofs.Keyed.{resource_id}
use Rattle.adr_store.proofs.Counted.{told_small, told_more, few_more}
use Rattle.adr_store.proofs.resources.Resources.with_new.Goals as goal

pub with-requires : goal.with-requires
with-requires c =
    told_small resource_id (λ r. r.ven_id) c.self.inside.owners.counts c.self.inside.table c.self.invariant.owned (omega (arith, c.self.invariant.few)) c.get.result.now.ven_id

pub invariant_of-result : goal.invariant_of-result
invariant_of-result c =
    rw c.in_ok-with_new.ensures
    (record {
      owned = told_more resource_id (λ r. r.ven_id) c.self.inside.owners.counts c.in_ok-with.field-0.counts c.self.inside.table c.args.resource c.self.invariant.owned
          c.get.result.now.ven_id (ap (λ r. r.ven_id) c.get.ensures) c.in_ok-with.ensures.counts;
      few = few_more MOST_RESOURCES c.self.inside.table c.args.resource (omega (arith, c.requires.few, ap (λ rs. length rs) c.self.view_is));
    })
