use Rattle.std.proofs.Common.{length, refl, sym, ◌∙◌}
use Rattle.adr_index.proofs.ByEnd.{told_by_end, told_tree}
use Rattle.adr_index.proofs.Grown.{entries_read, level_some}
use Rattle.adr_index.proofs.tree.any_reaches.Goals as goal

pub last_of-requires : goal.last_of-requires
last_of-requires c = told_by_end c.args.is_by_end c.args.entries.now c.args.greatest.now c.if-is_by_end.true c.requires.ends

pub returns : goal.returns
returns c =
    let level = level_some c.requires.ends.levels (length c.args.entries.now) c.requires.some c.requires.ends.enough in
    c.is_past-2.ensures ∙ sym (entries_read c.requires.ends.levels c.args.entries.now c.args.greatest.now c.args.query.now.from c.index-greatest-entries.result _ level c.requires.some c.requires.lengths (told_tree c.args.is_by_end c.args.entries.now c.args.greatest.now c.if-is_by_end.false c.requires.ends) c.index-greatest-entries.is refl)
