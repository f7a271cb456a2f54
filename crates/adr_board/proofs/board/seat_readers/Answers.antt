use Rattle.std.proofs.Common.{◌∙◌, ap, refl, sym, ◌∷◌, []}
use Rattle.adr_board.specs.Publications.{opening_book}
use Rattle.adr_board.specs.History.{seen_by}
use Rattle.adr_board.proofs.Opened.{one_more}
use Rattle.adr_board.proofs.Prefixes.{prefix_self}
use Rattle.adr_board.proofs.Steps.{admits}
use Rattle.adr_board.proofs.board.seat_readers.Goals as goal

pub reader-requires : goal.reader-requires
reader-requires g c = admits _ _

pub invariant_of-reader : goal.invariant_of-reader
invariant_of-reader g c = rw (c.in-Ok.ensures.view, ap (λ p. seen_by p.log) c.again.ensures ∙ c.requires.seen) (prefix_self (opening_book ∷ []), tt)

pub loop-reader-preserved : goal.loop-reader-preserved
loop-reader-preserved g c =
    one_more c.push.result c.loop-reader.list.items c.push.new.self.items _ _ _ c.loop-reader._reader (sym c.is_err.ensures.value ∙ c.if-is_err.false) c.push.ensures.items c.push.ensures.len
    c.loop-reader.invariant.0 c.loop-reader.invariant.1 (rw (ap (λ p. seen_by p.log) c.again.ensures ∙ c.requires.seen, c.again-in-loop-reader.ensures ∙ c.requires.told) refl)
