use Rattle.std.proofs.Common.{◌≡◌, ℕ, ◌&&◌, length}
use Rattle.adr_keys.specs.Places.{has}
use Rattle.adr_keys.proofs.Words.{so_far}
use Rattle.adr_keys.proofs.places.Places.keep_all.Given as goal

-- the words so far are joined
abbrev pub invariant-loop-index : goal.invariant-loop-index
invariant-loop-index l = record {
  len : length l.self-inside.words.items ≡ length l.fn.self;
  places : (p : ℕ) → has l.self-inside.words.items p ≡ so_far l.index (λ q. has l.fn.self q && has l.other q) (has l.fn.self) p;
}
