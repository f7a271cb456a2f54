use Rattle.std.proofs.Common.{◌≡◌, ◌∙◌, List, sym, subst, arith}
use Rattle.std.specs.Arc.{arc_value}
use mathlib.Core.List.{IsPrefix}
use Rattle.adr_book.specs.Ledger.{Ledger, sealed_of}
use Rattle.adr_board.specs.Published.{PublishedBook}
use Rattle.adr_board.proofs.Prefixes.{prefix_length}
use Rattle.adr_board.proofs.Settled.{seen_one}
use Rattle.adr_board.proofs.run.seen_by.Goals as goal

pub returns-clause-shown : goal.returns-clause-shown
returns-clause-shown g c =
    let settled = c.in_ok-settle.ensures in
    let seen = c.look.new.self.seen in
    let snapshot = arc_value c.in_ok-seen.seen in
    let last = c.in_ok-seen.ensures.last in
    seen_one c.args.editor.now.published seen snapshot c.args.editor.now.tie last.0 (subst (λ (l : List Ledger). IsPrefix seen l) settled.seen settled.kept) (last.1 ∙ sym c.editor_laws.ensures.tie)
    (subst (λ (s : PublishedBook). sealed_of s.book ≡ s.book.objects) c.deref.ensures c.snapshot_laws.ensures.leads)

pub returns-clause-known : goal.returns-clause-known
returns-clause-known g c = omega (arith, c.in_ok-seen.ensures.last.0.numbered, prefix_length c.look.new.self.seen c.settle.new.reader.seen c.in_ok-settle.ensures.kept)
