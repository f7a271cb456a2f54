use Rattle.std.proofs.Common.{◌≡◌, ◌+◌, ◌≤◌, ◌++◌, map, length}
use Rattle.adr_keys.specs.Places.{bits_of}
use Rattle.adr_keys.proofs.places.push_places.Given as goal

-- what is listed and what is left are the bits of the word
abbrev pub invariant-loop-step : goal.invariant-loop-step
invariant-loop-step l = record {
  items : l.list.items ++ map (λ i. l.base + i) (bits_of l.rest) ≡ l.fn.list.items ++ map (λ i. l.base + i) (bits_of l.word);
  few : length (bits_of l.rest) + l._step ≤ 64;
}
