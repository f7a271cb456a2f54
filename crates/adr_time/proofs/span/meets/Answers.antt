use Rattle.std.proofs.Common.{◌≡◌, ◌↔◌, IsTrue, rules, subst, sym}
use Rattle.adr_time.specs.Spans.{Meets, meets as span_meets}
use Rattle.adr_time.proofs.SpanLemmas.{meets_meaning}
use Rattle.adr_time.proofs.span.meets.Goals as goal

pub returns-then-is_before-clause-meaning : goal.returns-then-is_before-clause-meaning
returns-then-is_before-clause-meaning c =
    let same : c.is_before-then-is_before.result ≡ span_meets c.args.a.now c.args.b.now = search rules in
    subst (λ shares. IsTrue shares ↔ Meets c.args.a.now c.args.b.now) (sym same) (meets_meaning c.args.a.now c.args.b.now)
