-- Written numbers of entries.
use Rattle.std.specs.Prelude.{◌≡◌, ℕ, suc, ◌<◌, ⊤, List, [], ◌∷◌}
use Rattle.std.specs.List.{AllByRecursion}
use Rattle.adr_model.specs.declared.entry.Entry.{Entry}

-- each is below the number
abbrev pub AreBelow : ℕ → List Entry → Type 0
AreBelow n es = AllByRecursion (λ e. e.rank.written < n) es

-- the first is the number, and each other one more than that before it
abbrev pub AreRising : ℕ → List Entry → Type 0
AreRising n [] = ⊤
AreRising n (e ∷ es) = (e.rank.written ≡ n) × AreRising (suc n) es
