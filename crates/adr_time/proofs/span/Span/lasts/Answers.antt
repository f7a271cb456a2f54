use Rattle.std.proofs.Common.{◌↔◌, IsTrue, subst, sym}
use Rattle.adr_time.specs.Spans.{Lasts}
use Rattle.adr_time.proofs.SpanLemmas.{lasts_meaning}
use Rattle.adr_time.proofs.span.Span.lasts.Goals as goal

pub returns-clause-meaning : goal.returns-clause-meaning
returns-clause-meaning c = subst (λ holds. IsTrue holds ↔ Lasts c.args.self.now) (sym c.is_before.ensures.test) (lasts_meaning c.args.self.now)
