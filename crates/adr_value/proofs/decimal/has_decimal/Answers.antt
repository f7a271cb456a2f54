use Rattle.std.proofs.Common.{arith, sym}
use Rattle.adr_value.specs.Views.{spelling_view}
use Rattle.adr_value.proofs.ValueLemmas.{short_has_decimal}
use Rattle.adr_value.proofs.decimal.has_decimal.Goals as goal

pub returns : goal.returns
returns c =
    let spelling = c.args.spelling.now in
    sym (short_has_decimal (spelling_view spelling) spelling.whole_is spelling.fraction_is (omega arith) (omega arith) (omega arith))
