use Rattle.std.proofs.Common.{rules, ◌∙◌, not, of_calls}
use Rattle.std.proofs.lemmas.Fn.{always_returns_same}
use Rattle.adr_time.specs.Spans.{is_before}
use Rattle.adr_timeline.proofs.Words.{canonical_linked}
use Rattle.adr_timeline.proofs.Canonical.{open_at, open_found, item_copied}
use Rattle.adr_timeline.proofs.search.first_open_in.Goals as goal

pub returns : goal.returns
returns c =
    c.copied.ensures
    ∙ (item_copied c.args.segments.now c.partition_point-ended.result c.get.result c.get.ensures.lookup
    ∙ open_found c.args.segments.now c.args.at c.partition_point-ended.result (open_at c.args.segments.now c.args.at c.partition_point-ended.result (canonical_linked _ c.requires)
    (c.partition_point-ended.ensures.partitioned (λ s. not (is_before c.args.at s.end)) (always_returns_same _ _ _ (λ a r f k. search (rules, of_calls))))))
