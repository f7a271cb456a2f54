-- What the order of ranks owes: it is strict and total.
use Rattle.std.specs.Prelude.{◌≡◌, true, false}
use Rattle.adr_model.specs.Rank.{goes_before}
use Rattle.adr_model.specs.declared.entry.Rank.{Rank}

-- no rank goes before itself
abbrev pub NoneGoesBeforeItself : Type 0
NoneGoesBeforeItself = (a : Rank) → goes_before a a ≡ false

-- what goes before a rank goes before all that come after it
abbrev pub GoingBeforePassesOn : Type 0
GoingBeforePassesOn = (a b c : Rank) → goes_before a b ≡ true → goes_before b c ≡ true → goes_before a c ≡ true

-- of two ranks one goes before the other
abbrev pub OneOfTwoGoesBefore : Type 0
OneOfTwoGoesBefore = (a b : Rank) → goes_before a b ≡ false → goes_before b a ≡ false → a ≡ b
