use Rattle.std.proofs.Common.{rules, ◌≡◌, ◌∙◌, ap, sym, subst}
use Rattle.std.specs.Arc.{arc_value}
use Rattle.adr_book.specs.Ledger.{Ledger}
use Rattle.adr_board.specs.Published.{PublishedBook}
use Rattle.adr_board.specs.Types.{HasPrivateNames}
use Rattle.adr_board.proofs.Following.{condensed, same_part}
use Rattle.adr_board.proofs.publisher.Publisher.condense.Goals as goal

pub invariant_of-self : goal.invariant_of-self
invariant_of-self c =
    let kept = c.self.invariant in
    let same : c.book.result.now.objects ≡ (arc_value c.self.inside.last).book.objects = search rules in
    let still = condensed c.condense.result _ _ c.self.inside.desk.book c.condense.new.self.book same kept.leads c.condense.ensures.base c.condense.ensures.closed (same_part c.condense.result (λ d. d.book) _ _ c.condense.ensures.unchanged) in
    record { leads = still; rule = kept.rule ∙ sym c.condense.ensures.tie; most = kept.most; names = subst HasPrivateNames (sym c.condense.ensures.objects) kept.names }

pub condense-requires : goal.condense-requires
condense-requires c = ap (λ (b : Ledger). b.objects) (c.book.ensures ∙ ap (λ (s : PublishedBook). s.book) c.deref.ensures) ∙ c.self.invariant.leads
