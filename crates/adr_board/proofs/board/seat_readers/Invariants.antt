use Rattle.std.proofs.Common.{◌≡◌, vec_len, All}
use Rattle.adr_board.specs.Boards.{newcomer}
use Rattle.adr_board.proofs.board.seat_readers.Given as goal

abbrev pub invariant-loop-reader : goal.invariant-loop-reader
invariant-loop-reader g l = (vec_len l.list ≡ l._reader) × All (λ r. r ≡ newcomer) l.list.items
