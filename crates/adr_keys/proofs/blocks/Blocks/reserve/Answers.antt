use Rattle.std.proofs.Common.{◌∙◌}
use Rattle.adr_keys.specs.Blocks.{covers}
use Rattle.adr_keys.proofs.Covered.{has_block-read, any-at}
use Rattle.adr_keys.proofs.blocks.Blocks.reserve.Goals as goal

pub returns-in-Some-clause-ok : goal.returns-in-Some-clause-ok
returns-in-Some-clause-ok c =
    has_block-read c.args.self.now c.args.place ∙ any-at (covers c.args.place) c.args.self.now c.in-Some.field-0 (record { start = 0; bits = 0 }) c.in-Some.ensures.0 (c.in-Some.ensures.1 (record { start = 0; bits = 0 }))
