use Rattle.std.proofs.Common.{◌∙◌, ap, List, ℕ, subst}
use Rattle.std.specs.Fmt.{styled_decimal, HasWritten}
use Rattle.adr_value.proofs.TextLemmas.{styled_decimal-zeros}
use Rattle.adr_value.proofs.print.DigitsDisplay.fmt.Goals as goal

pub returns-clause-writes : goal.returns-clause-writes
returns-clause-writes g c =
    let same = ap (λ s. styled_decimal s c.args.self.now.value) c.laid_out.ensures
    ∙ styled_decimal-zeros c.args.self.now.places c.args.self.now.value in
    λ plain ok. subst (λ (bs : List ℕ). HasWritten {W = g.row.W.Denot} g.W.Write.write_str_gives c.args.f.now bs c.write.new.self) same (c.write.ensures.writes plain ok)
