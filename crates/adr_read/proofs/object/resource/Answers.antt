use Rattle.std.proofs.Common.{◌∙◌, ℕ, List, codes, ap}
use Rattle.adr_object.specs.declared.party.Resource.{Resource}
use Rattle.adr_object.specs.declared.event.Target.{Target}
use Rattle.adr_read.specs.Looking.{member_at}
use Rattle.adr_read.specs.Objects.{resource_faults, resource_in}
use Rattle.adr_read.proofs.object.resource.Goals as goal

abbrev made : List ℕ → ((Unit {0} × List ℕ) × List ℕ) × List Target → Resource
made id p = record { id = id; resource_name = p.0.0.1; ven_id = p.0.1; targets = p.1 }

pub returns : goal.returns
unfolding resource_faults resource_in
returns c d hk hi ht hn hv =
    let parts = c.in_ok-resource_name.ensures (member_at (codes "objectType") d) (member_at (codes "id") d) (member_at (codes "targets") d) (member_at (codes "resourceName") d) (member_at (codes "venID") d) hk hi ht hn hv in
    (parts.0, ap (λ (id : List ℕ). made id (((tt, c.in_ok-resource_name.resource_name), c.in_ok-resource_name.ven_id), c.in_ok-resource_name.targets)) c.in_ok-copy.ensures ∙ ap (made c.args.id.now) parts.1)
