use Rattle.adr_group.proofs.Seen.{half_inside, halves, same_halves}
use Rattle.adr_group.proofs.windows.once.Goals as goal

pub returns-then-have_same_spans-clause-covers : goal.returns-then-have_same_spans-clause-covers
returns-then-have_same_spans-clause-covers c t =
    same_halves c.split_at.result.0.now c.split_at.result.1.now c.args.windows.now t (halves c.split_at.result.0.now c.split_at.result.1.now c.args.windows.now _ c.split_at.ensures.front c.split_at.ensures.back) (c.have_same_spans.ensures c.if-have_same_spans.true t)

pub returns-then-have_same_spans-clause-cost : goal.returns-then-have_same_spans-clause-cost
returns-then-have_same_spans-clause-cost c ws es =
    half_inside c.split_at.result.0.now c.split_at.result.1.now c.args.windows.now ws es (halves c.split_at.result.0.now c.split_at.result.1.now c.args.windows.now _ c.split_at.ensures.front c.split_at.ensures.back)
