use Rattle.std.proofs.Common.{◌≡◌, ◌*◌, filter}
use Rattle.std.specs.List.{range_with_len}
use Rattle.adr_keys.proofs.Listing.{first_places}
use Rattle.adr_keys.proofs.places.Places.list.Given as goal

-- the words so far are listed
abbrev pub invariant-loop-index : goal.invariant-loop-index
invariant-loop-index l = l.list.items ≡ filter (first_places l.self l.count) (range_with_len 0 (64 * l.index))
