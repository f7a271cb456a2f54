use Rattle.std.proofs.Common.{◌∙◌, ◌∷◌, ◌++◌, [], ap, length, arith}
use Rattle.adr_value.proofs.list.with_two.Goals as goal

pub push_reserved-requires : goal.push_reserved-requires
push_reserved-requires g c = omega (arith, ap length c.requires.empty, c.args.items.ok.0)

pub push_reserved-requires-2 : goal.push_reserved-requires-2
push_reserved-requires-2 g c = omega (arith, ap length c.requires.empty, c.args.items.ok.0)

pub returns : goal.returns
returns g c =
    c.push_reserved-2.ensures.items
    ∙ ap (λ items. items ++ c.args.second ∷ []) (c.push_reserved.ensures.items ∙ ap (λ items. items ++ c.args.first ∷ []) c.requires.empty)
