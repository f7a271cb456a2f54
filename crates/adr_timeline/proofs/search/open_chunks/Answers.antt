use Rattle.std.proofs.Common.{rules, ◌∙◌, not, of_calls}
use Rattle.std.proofs.lemmas.Fn.{always_returns_same}
use Rattle.adr_timeline.specs.Chunks.{lasts_past}
use Rattle.adr_timeline.proofs.Searched.{found_open}
use Rattle.adr_timeline.proofs.search.open_chunks.Goals as goal

pub returns : goal.returns
returns c =
    c.split_at.ensures.back
    ∙ found_open c.args.chunks.now c.args.at c.partition_point-ended.result c.requires.canonical c.requires.filled
    (c.partition_point-ended.ensures.partitioned (λ s. not (lasts_past s c.args.at)) (always_returns_same _ _ _ (λ a r f k. search (rules, of_calls))))
