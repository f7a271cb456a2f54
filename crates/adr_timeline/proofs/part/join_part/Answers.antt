use Rattle.std.proofs.Common.{◌∙◌, List, ap}
use Rattle.std.proofs.lemmas.Result.{on_ok_weaker}
use Rattle.adr_model.specs.declared.timeline.Segment.{Segment}
use Rattle.adr_timeline.specs.Chunks.{listed}
use Rattle.adr_timeline.specs.Parts.{part, joined_all}
use Rattle.adr_timeline.proofs.Searched.{from_canonical, from_filled, from_part}
use Rattle.adr_timeline.proofs.part.join_part.Goals as goal

pub join_chunks-requires-clause-canonical : goal.join_chunks-requires-clause-canonical
join_chunks-requires-clause-canonical c = rw c.chunks_from.ensures (from_canonical c.args.from.now c.args.chunks.now c.requires.canonical)

pub join_chunks-requires-clause-filled : goal.join_chunks-requires-clause-filled
join_chunks-requires-clause-filled c = rw c.chunks_from.ensures (from_filled c.args.from.now c.args.chunks.now c.requires.filled)

pub returns : goal.returns
returns c = on_ok_weaker c.join_chunks.result
    (λ made. made ∙ ap (joined_all c.args.line.now) (ap (λ (cs : List (List Segment)). part c.args.from.now c.args.until.now (listed cs)) c.chunks_from.ensures ∙ from_part c.args.from.now c.args.until.now c.args.chunks.now c.requires.canonical))
    c.join_chunks.ensures
