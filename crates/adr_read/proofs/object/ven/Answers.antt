use Rattle.std.proofs.Common.{◌∙◌, ℕ, List, codes, ap}
use Rattle.adr_object.specs.declared.party.Ven.{Ven}
use Rattle.adr_object.specs.declared.event.Target.{Target}
use Rattle.adr_read.specs.Looking.{member_at}
use Rattle.adr_read.specs.Objects.{ven_faults, ven_in}
use Rattle.adr_read.proofs.object.ven.Goals as goal

abbrev made : List ℕ → (Unit {0} × List ℕ) × List Target → Ven
made id p = record { id = id; ven_name = p.0.1; targets = p.1 }

pub returns : goal.returns
unfolding ven_faults ven_in
returns c d hk hi ht hn =
    let parts = c.in_ok-ven_name.ensures (member_at (codes "objectType") d) (member_at (codes "id") d) (member_at (codes "targets") d) (member_at (codes "venName") d) hk hi ht hn in
    (parts.0, ap (λ (id : List ℕ). made id ((tt, c.in_ok-ven_name.ven_name), c.in_ok-ven_name.targets)) c.in_ok-copy.ensures ∙ ap (made c.args.id.now) parts.1)
