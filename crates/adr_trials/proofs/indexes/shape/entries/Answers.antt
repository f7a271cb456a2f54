use Rattle.std.proofs.Common.{rules, ◌≡◌, ◌+◌, ◌++◌, ◌∷◌, [], arith}
use Rattle.std.proofs.lemmas.List.{length-append}
use Rattle.adr_trials.proofs.Rising.{rising_more}
use Rattle.adr_trials.proofs.indexes.shape.entries.Goals as goal

pub loop-place-preserved : goal.loop-place-preserved
loop-place-preserved c =
    let written : c.entry_of-entry.result.rank.written ≡ c.args.first + c.loop-place.place = search rules in
    let added : c.add.new.entries.items ≡ c.loop-place.entries.items ++ c.entry_of-entry.result ∷ [] = search rules in
    record {
      rising = rw added (rising_more c.args.first c.loop-place.entries.items c.entry_of-entry.result c.loop-place.invariant.rising (omega (arith, written, c.loop-place.invariant.length)));
      length = rw (added, length-append c.loop-place.entries.items (c.entry_of-entry.result ∷ [])) (omega (arith, c.loop-place.invariant.length));
    }
