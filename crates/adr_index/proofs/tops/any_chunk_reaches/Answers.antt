use Rattle.std.proofs.Common.{length, refl, sym, ◌∙◌}
use Rattle.adr_index.specs.Chunks.{listed}
use Rattle.adr_index.proofs.Grown.{level_some, root_read}
use Rattle.adr_index.proofs.tops.any_chunk_reaches.Goals as goal

pub returns : goal.returns
returns c =
    let level = level_some c.requires.tops.levels (length c.args.chunks.now) c.requires.some c.requires.tops.enough in
    c.is_past.ensures ∙ sym (root_read listed 6 c.requires.tops.levels c.args.chunks.now c.args.tops.now level c.args.query.now.from c.index-tops-chunks.result _ c.requires.some c.requires.lengths c.requires.tops.tree c.index-tops-chunks.is refl)
