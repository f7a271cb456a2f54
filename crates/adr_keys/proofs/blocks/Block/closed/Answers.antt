use Rattle.std.proofs.Common.{rules, ◌≡◌, true, sym, ◌∙◌}
use Rattle.adr_keys.specs.Blocks.{covers}
use Rattle.adr_keys.proofs.Covered.{close-in}
use Rattle.adr_keys.proofs.blocks.Block.closed.Goals as goal

pub returns : goal.returns
returns c =
    let own : covers c.args.place c.args.self ≡ true = sym c.covers.ensures ∙ (search rules) in
    close-in c.args.self c.args.place c.without_gap.result c.without_gap.ensures.none_past own c.without_gap.ensures.bits
