-- What the editor of a board shows of the machine.
use Rattle.std.specs.Prelude.{◌-◌, length}
use Rattle.adr_model.specs.Kept.{Kept}
use Rattle.adr_board.specs.Boards.{Board, last_of}

-- the rule for ties, the version of its base, its objects, and those of the last publication with its number
abbrev pub kept_of : Board → Kept
kept_of b = record { tie = b.tie; base = b.book.base.version; current = b.book.objects; published = (last_of b.published).objects; number = length b.published - 1 }
