use Rattle.std.proofs.Common.{◌∙◌, arith, sym, ap}
use Rattle.std.specs.Prelude.{not, nat_le}
use Rattle.adr_value.proofs.NameLengths.{short_name, long_name}
use Rattle.adr_value.proofs.text.Name.fits.Goals as goal

pub returns-then-text-le128 : goal.returns-then-text-le128
returns-then-text-le128 c = ap not c.is_empty.ensures ∙ sym (short_name c.args.text.now c.utf8.text (omega (arith, c.if-text-le128.true)))

pub returns : goal.returns
returns c = ap (λ n. nat_le n 128) c.char_count.ensures ∙ sym (long_name c.args.text.now c.utf8.text (omega (arith, c.if-text-le128.false)))
