use Rattle.std.proofs.Common.{◌≡◌, ◌∙◌, Some, ap, sym, arith}
use Rattle.std.specs.Option.{option_copied}
use Rattle.adr_value.specs.declared.limits.TheConstants.{MOST_RESOURCES}
use Rattle.adr_model.proofs.Keyed.{resource_id}
use Rattle.adr_store.proofs.Found.{the_one}
use Rattle.adr_store.proofs.Counted.{told_small, told_some, told_put, few_put}
use Rattle.adr_store.proofs.resources.Resources.with_changed.Goals as goal

pub without-requires : goal.without-requires
without-requires c =
    told_some resource_id (λ r. r.ven_id) c.self.inside.owners.counts c.self.inside.table c.get.result.now.id c.in-Some.old.now
    c.self.invariant.owned c.in-Some.ensures.distinct (sym c.get-2.ensures.value ∙ ap option_copied c.in-Some.is)
    c.get-3.result.now.ven_id (ap (λ r. r.ven_id) c.get-3.ensures)

pub with-requires : goal.with-requires
with-requires c =
    let id = c.get-4.result.now.ven_id in
    let few = told_small resource_id (λ r. r.ven_id) c.self.inside.owners.counts c.self.inside.table c.self.invariant.owned (omega (arith, c.self.invariant.few)) id in
    omega (arith, few, c.in_ok-less.ensures.counts id)

pub invariant_of-result : goal.invariant_of-result
invariant_of-result c =
    let is : the_one resource_id (resource_id c.args.resource) c.self.inside.table ≡ Some c.in-Some.old.now =
    ap (λ r. the_one resource_id (resource_id r) c.self.inside.table) (sym c.get.ensures) ∙ sym c.get-2.ensures.value ∙ ap option_copied c.in-Some.is in
    rw c.in_ok-with_changed.ensures
    (record {
      owned = told_put resource_id (λ r. r.ven_id) c.self.inside.owners.counts c.in_ok-less.less.counts c.in_ok-with.field-0.counts c.self.inside.table (resource_id c.args.resource)
          c.in-Some.old.now c.args.resource c.self.invariant.owned c.in-Some.ensures.distinct is
          c.get-3.result.now.ven_id (ap (λ r. r.ven_id) c.get-3.ensures) c.in_ok-less.ensures.counts
          c.get-4.result.now.ven_id (ap (λ r. r.ven_id) c.get-4.ensures) c.in_ok-with.ensures.counts;
      few = few_put MOST_RESOURCES resource_id (resource_id c.args.resource) c.args.resource c.self.inside.table c.self.invariant.few;
    })
