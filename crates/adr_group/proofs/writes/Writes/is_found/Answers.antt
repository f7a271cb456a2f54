use Rattle.std.proofs.Common.{ap, ◌∙◌}
use Rattle.adr_lines.specs.Right.{has_number}
use Rattle.adr_group.proofs.Numbers.{found_has}
use Rattle.adr_group.proofs.writes.Writes.is_found.Goals as goal

pub returns : goal.returns
returns c =
    c.is_ok.ensures.value
    ∙ found_has c.self.inside.numbers.items c.deref.result.now c.args.number c.deref.ensures.value c.self.invariant c.binary_search.result c.binary_search.ensures.position
    ∙ ap (λ ns. has_number ns c.args.number) c.self.view_is
