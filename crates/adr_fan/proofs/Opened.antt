-- A desk before the first line.
use Rattle.std.proofs.Common.{◌≡◌, List, [], ◌∷◌, ap}
use Rattle.adr_model.specs.declared.entry.Tie.{Tie}
use Rattle.adr_model.specs.Book.{empty}
use Rattle.adr_board.specs.Boards.{Board}
use Rattle.adr_board.specs.Publications.{opening_book, publications_in}
use Rattle.adr_resolver.specs.Fan.{Sent, fan_start}

-- the editor of a new board, which has sent nothing, is at the start
pub opens : (b : Board) (sent : List Sent) (tie : Tie) → b.tie ≡ tie → b.book.base ≡ empty → b.book.objects ≡ empty → b.book.pending ≡ [] → b.published ≡ opening_book ∷ [] → sent ≡ []
    → record { machine = record { tie = b.tie; base = b.book.base.version; current = b.book.objects; published = publications_in b.published; pending = b.book.pending; seen = [] }; sent = sent } ≡ fan_start tie
opens b sent tie rule base objects pending published none =
    cc (rule, ap (λ x. x.version) base, objects, pending, ap publications_in published, none)
