use Rattle.std.proofs.Common.{◌∙◌, ℕ, List, codes, ap}
use Rattle.adr_object.specs.declared.party.Program.{Program}
use Rattle.adr_object.specs.declared.event.Target.{Target}
use Rattle.adr_read.specs.Looking.{member_at}
use Rattle.adr_read.specs.Objects.{program_faults, program_in}
use Rattle.adr_read.proofs.object.program.Goals as goal

abbrev made : List ℕ → (Unit {0} × List ℕ) × List Target → Program
made id p = record { id = id; program_name = p.0.1; targets = p.1 }

pub returns : goal.returns
unfolding program_faults program_in
returns c d hk hi ht hn =
    let parts = c.in_ok-program_name.ensures (member_at (codes "objectType") d) (member_at (codes "id") d) (member_at (codes "targets") d) (member_at (codes "programName") d) hk hi ht hn in
    (parts.0, ap (λ (id : List ℕ). made id ((tt, c.in_ok-program_name.program_name), c.in_ok-program_name.targets)) c.in_ok-copy.ensures ∙ ap (made c.args.id.now) parts.1)
