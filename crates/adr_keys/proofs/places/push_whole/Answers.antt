use Rattle.std.proofs.Common.{rules, Ok, ◌+◌, refl}
use Rattle.std.proofs.lemmas.Iterator.{YieldsList-from_range, YieldsList-from_map}
use Rattle.std.proofs.lemmas.Iterator.Adapters.{items_from_extend}
use Rattle.adr_keys.proofs.places.push_whole.Goals as goal

pub returns-clause-ok : goal.returns-clause-ok
returns-clause-ok c =
    (items_from_extend {E = Unit {0}} (Ok c.in_ok-extend.field-0) c.in_ok-extend.ensures.ran (YieldsList-from_map _ (λ i. c.args.base + i) (YieldsList-from_range 0 64 64 c.map.ensures.source refl) c.map.ensures.closure (λ x r q k. search rules))).0
