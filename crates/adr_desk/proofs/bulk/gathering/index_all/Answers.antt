use Rattle.std.proofs.Common.{ap, subst, ◌∙◌}
use Rattle.adr_lines.specs.Right.{has_number}
use Rattle.adr_lines.specs.Exchange.{IsIndexOf}
use Rattle.adr_desk.proofs.Choosing.{all_chosen}
use Rattle.adr_desk.proofs.bulk.gathering.index_all.Goals as goal

pub returns-clause-indexed : goal.returns-clause-indexed
returns-clause-indexed c =
    let events = c.args.book.now.objects.events in
    subst (λ ws. IsIndexOf c.args.tie ws c.in_ok-indexes.indexes)
    (all_chosen events c.in_ok-numbers.numbers.items c.numbers.result.now c.in_ok-numbers.ensures.ok (λ n. ap (λ ns. has_number ns n) c.numbers.ensures.numbers ∙ c.of-writes.ensures n))
    (c.in_ok-types.ensures.indexed c.in_ok-indexes.indexes c.in_ok-indexes.ensures.entries)
