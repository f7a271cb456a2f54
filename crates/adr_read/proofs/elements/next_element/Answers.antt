use Rattle.std.proofs.Common.{◌≡◌, None, [], refl, arith, ap, ◌∙◌}
use Rattle.json.specs.Json.{after_end_array, value}
use Rattle.adr_read.proofs.SkipLemmas.{item_refused}
use Rattle.adr_read.proofs.Turns.{nothing_comes}
use Rattle.adr_read.specs.Coming.{coming}
use Rattle.adr_read.proofs.elements.next_element.Goals as goal

pub returns-in-None-clause-bad : goal.returns-in-None-clause-bad
returns-in-None-clause-bad c =
    let ts = c.args.reader.now in
    let empty : ts ≡ [] = grind arith in
    let going : after_end_array ts ≡ None = grind arith in
    (refl, λ depth n. item_refused (value depth) n ts going (ap (coming depth) empty ∙ nothing_comes depth))
