use Rattle.std.proofs.Common.{◌≡◌, ap, ◌∙◌, arith, unwrap_or}
use Rattle.std.specs.Str.Parse.{digits_value, without_leading_plus}
use Rattle.adr_server.proofs.words.count_asked.Goals as goal

pub returns-clause-asked : goal.returns-clause-asked
returns-clause-asked c = λ text written numeral low high.
    let found = c.count_of.ensures text written numeral (omega (arith, high)) in
    let number = digits_value 10 (without_leading_plus text) in
    let held : c.unwrap_or.result ≡ number = c.unwrap_or.ensures ∙ ap (λ o. unwrap_or o 1) found in
    omega (arith, held, low, high)
